-- Accepted replies are those that state a claim and polynomials that add up.
use Rattle.std.proofs.Common.{◌≡◌, ℕ, ◌+◌, ◌≤◌, Bool, true, false, ◌&&◌, ℤ, nat_abs, Option, Some, None, Result, Ok, Err, List, [], ◌∷◌, ◌++◌, length, map, drop, All, refl, sym, ap, ◌∙◌, arith}
use Rattle.std.specs.Prelude.{◌==◌}
use Rattle.std.proofs.lemmas.Bool.{and_from, eqb-true}
use Rattle.std.proofs.lemmas.List.{append-nil}
use Rattle.std.proofs.lemmas.List.Elements.{All-nil, All-cons, All-head, All-tail}
use Rattle.sip_field.specs.Residue.{residue}
use Rattle.sip_vector.specs.Answers.{Answer, number}
use Rattle.sip_vector.specs.Steps.{◌>>=◌, needs}
use Rattle.sip_wire.specs.declared.kind.Place.TheVariants as places
use Rattle.sip_wire.specs.declared.message.Message.{Message}
use Rattle.sip_wire.specs.declared.message.Message.TheVariants as messages
use Rattle.sip_wire.specs.declared.message.Reason.{Reason}
use Rattle.sip_wire.specs.declared.message.Reason.TheVariants as reasons
use Rattle.sip_wire.specs.declared.version.Version.{Version}
use Rattle.sip_wire.specs.Decoding.{IsBytes, Spelled}
use Rattle.sip_wire.specs.Spelling.{spelling}
use Rattle.sip_wire.specs.Table.{most_claim}
use Rattle.sip_wire.proofs.Longest.{claim_from_fits}
use Rattle.sip_counts.specs.Rounds.{adds_up, is_expected, sum_of_ends, value_at}
use Rattle.sip_replies.specs.Protocols.{Rules}
use Rattle.sip_replies.specs.Replies.{Fault, IsAccepted, in_round, learnt, read_reply, run_from, step_says}
use Rattle.sip_replies.proofs.FirstFrame.{first_frame}
use Rattle.sip_replies.proofs.Passing.{at_end_parts, same_ok}
use Rattle.sip_sums.specs.Stating.{with_claim}
use Rattle.sip_moments.specs.AcceptsMoment.{Stated}
use Rattle.sip_moments.specs.Protocol.{MomentState, claimed, moment_asked, moment_protocol, moment_rules, moment_step}
use Rattle.sip_moments.specs.Stating.{IsPolynomial, States, power_message}
use Rattle.sip_moments.proofs.PowerFrames.{power_below}
use Rattle.sip_moments.proofs.ReadMoments.{known, tested_step}

-- ---- one reply

-- the test behind the last reply was passed
ended_with : (test : Bool) (d : ℕ) (claim : ℤ) (answer : Answer)
    → in_round d (needs test reasons.Root >>= λ _. Ok (number claim)) ≡ Ok answer
    → (test ≡ true) × (answer ≡ number claim)
ended_with true d claim answer e = (refl, sym (same_ok {E = Fault} (number claim) answer e))
ended_with false d claim answer e = absurd cc

module _ (version : Version) (p k power : ℕ) where
  abbrev R : Rules MomentState
  R = moment_rules version p k

  abbrev reply : List ℕ → List ℕ
  reply c = spelling version (power_message c)

  -- a reply is one polynomial, which passed its tests
  record IsPower (claim : ℤ) (expected : ℕ) (bytes : List ℕ) (t : MomentState) : Type 0 where
    pub c : List ℕ
    pub polynomial : IsPolynomial k c
    pub spelled : bytes ≡ reply c
    pub adds : is_expected p k expected c ≡ true
    pub then : known claim expected c ≡ t

  module _ (claim : ℤ) (expected : ℕ) (last bytes : List ℕ) (t : MomentState)
      (fine : IsBytes bytes) where
    abbrev s : MomentState
    s = known claim expected last

    by_tests : (c : List ℕ) (rest : List ℕ) (long test : Bool) → (length c == k + 1) ≡ long
        → (sum_of_ends p c == expected) ≡ test
        → Spelled version (places.Power k) bytes (power_message c) rest
        → step_says (read_reply R) rest (tested_step long test (known claim expected c)) ≡ Ok t
        → IsPower claim expected bytes t
    by_tests c rest true true so is sp e =
        let parts = at_end_parts (known claim expected c) t rest e in
        record {
          c = c;
          polynomial = record {
            long = eqb-true (length c) (k + 1) so;
            elements = power_below version (record { items = c }) sp.has_spelling;
          };
          spelled = sp.spelled ∙ ap (λ r. reply c ++ r) parts.0 ∙ append-nil (reply c);
          adds = and_from (length c == k + 1) (sum_of_ends p c == expected) so is;
          then = parts.1;
        }
    by_tests c rest true false so is sp e = absurd cc
    by_tests c rest false test so is sp e = absurd cc

    by_message : (m : Message) (rest : List ℕ) → Spelled version (places.Power k) bytes m rest
        → step_says (read_reply R) rest (moment_step p k s m) ≡ Ok t
        → IsPower claim expected bytes t
    by_message (messages.Power v) rest sp e =
        by_tests v.items rest (length v.items == k + 1) (sum_of_ends p v.items == expected)
        refl refl sp e
    by_message _ rest sp e = absurd cc

    power_back : read_reply R s bytes ≡ Ok t → IsPower claim expected bytes t
    power_back e =
        let first = first_frame R s t bytes fine e in
        by_message first.message first.rest first.spelled first.says

  -- reply 0 is a claim and one polynomial
  record IsFirst (bytes : List ℕ) (t : MomentState) : Type 0 where
    pub claim : ℤ
    pub small : nat_abs claim ≤ most_claim
    pub behind : List ℕ
    pub spelled : bytes ≡ spelling version (messages.Claim claim) ++ behind
    pub poly : IsPower claim (residue p claim) behind t

  module _ (bytes : List ℕ) (t : MomentState) (fine : IsBytes bytes) where
    of_message : (m : Message) (rest : List ℕ) → IsBytes rest
        → Spelled version places.Claim bytes m rest
        → step_says (read_reply R) rest (moment_step p k R.start m) ≡ Ok t → IsFirst bytes t
    of_message (messages.Claim claim) rest fine_rest sp e = record {
      claim = claim;
      small = claim_from_fits version claim sp.in_range sp.has_spelling;
      behind = rest;
      spelled = sp.spelled;
      poly = power_back claim (residue p claim) [] rest t fine_rest e;
    }
    of_message _ rest fine_rest sp e = absurd cc

    first_back : read_reply R R.start bytes ≡ Ok t → IsFirst bytes t
    first_back e =
        let first = first_frame R R.start t bytes fine e in
        of_message first.message first.rest first.are_bytes first.spelled first.says

  -- ---- replies behind a claim

  -- they state polynomials, and so does the state behind them
  record IsRest (claim : ℤ) (expected : ℕ) (rs : List ℕ) (replies : List (List ℕ))
      (t : MomentState) : Type 0 where
    pub cs : List (List ℕ)
    pub each_is : All (IsPolynomial k) cs
    pub spelled : replies ≡ map reply cs
    pub each : length cs ≡ length rs
    pub stays : t.claim ≡ Some claim
    pub sum : adds_up p k power expected cs rs ≡ (t.expected == power)

  -- one polynomial, and those behind it
  with_poly : (claim : ℤ) (expected r : ℕ) (rs bytes : List ℕ) (more : List (List ℕ))
      (u t : MomentState) (poly : IsPower claim expected bytes u)
      → IsRest claim (value_at p poly.c r) rs more t
      → IsRest claim expected (r ∷ rs) (bytes ∷ more) t
  unfolding adds_up
  with_poly claim expected r rs bytes more u t poly rest = record {
    cs = poly.c ∷ rest.cs;
    each_is = All-cons (IsPolynomial k) poly.c rest.cs poly.polynomial rest.each_is;
    spelled = ap (λ (b : List ℕ). b ∷ more) poly.spelled
        ∙ ap (λ (m : List (List ℕ)). reply poly.c ∷ m) rest.spelled;
    each = omega (arith, rest.each);
    stays = rest.stays;
    sum = ap (λ (b : Bool). b && adds_up p k power (value_at p poly.c r) rest.cs rs) poly.adds
        ∙ rest.sum;
  }

  -- what follows a polynomial
  behind_poly : (claim : ℤ) (expected r j : ℕ) (rs bytes : List ℕ) (more : List (List ℕ))
      (u t : MomentState)
      → ((c : List ℕ) → run_from R (j + 1) rs (known claim (value_at p c r) c) more ≡ Ok t
      → IsRest claim (value_at p c r) rs more t)
      → IsPower claim expected bytes u
      → run_from R (j + 1) (drop 1 (r ∷ rs)) (learnt R (r ∷ rs) u) more ≡ Ok t
      → IsRest claim expected (r ∷ rs) (bytes ∷ more) t
  behind_poly claim expected r j rs bytes more u t later poly e =
      with_poly claim expected r rs bytes more u t poly (later poly.c
      (ap (λ (v : MomentState). run_from R (j + 1) rs (learnt R (r ∷ rs) v) more) poly.then ∙ e))

  by_read : (claim : ℤ) (expected r j : ℕ) (last : List ℕ) (rs bytes : List ℕ)
      (more : List (List ℕ)) (t : MomentState)
      → ((c : List ℕ) → run_from R (j + 1) rs (known claim (value_at p c r) c) more ≡ Ok t
      → IsRest claim (value_at p c r) rs more t)
      → IsBytes bytes → (q : Result MomentState Reason)
      → read_reply R (known claim expected last) bytes ≡ q
      → (in_round j q
      >>= λ u. run_from R (j + 1) (drop 1 (r ∷ rs)) (learnt R (r ∷ rs) u) more) ≡ Ok t
      → IsRest claim expected (r ∷ rs) (bytes ∷ more) t
  by_read claim expected r j last rs bytes more t later fine (Err reason) is e = absurd cc
  by_read claim expected r j last rs bytes more t later fine (Ok u) is e =
      behind_poly claim expected r j rs bytes more u t later
      (power_back claim expected last bytes u fine is) e

  rest_back : (claim : ℤ) (replies : List (List ℕ)) (rs : List ℕ) (expected : ℕ)
      (last : List ℕ) (j : ℕ) (t : MomentState) → length replies ≡ length rs
      → All IsBytes replies → run_from R j rs (known claim expected last) replies ≡ Ok t
      → IsRest claim expected rs replies t
  unfolding run_from adds_up
  rest_back claim [] [] expected last j t same fine e =
      let is : known claim expected last ≡ t = same_ok {E = Fault} _ _ e in
      record {
        cs = [];
        each_is = All-nil (IsPolynomial k);
        spelled = refl;
        each = refl;
        stays = ap (λ (u : MomentState). u.claim) (sym is);
        sum = ap (λ (u : MomentState). u.expected == power) is;
      }
  rest_back claim [] (r ∷ rs) expected last j t same fine e = absurd (omega (arith, same))
  rest_back claim (bytes ∷ more) [] expected last j t same fine e = absurd (omega (arith, same))
  rest_back claim (bytes ∷ more) (r ∷ rs) expected last j t same fine e =
      by_read claim expected r j last rs bytes more t
      (λ c. rest_back claim more rs (value_at p c r) c (j + 1) t (omega (arith, same))
      (All-tail IsBytes bytes more fine))
      (All-head IsBytes bytes more fine) (read_reply R (known claim expected last) bytes) refl e

  -- ---- all replies

  -- they state this claim and polynomials, and so does the state behind them
  record IsWhole (rs : List ℕ) (replies : List (List ℕ)) (t : MomentState) : Type 0 where
    pub claim : ℤ
    pub small : nat_abs claim ≤ most_claim
    pub first : List ℕ
    pub more : List (List ℕ)
    pub spelled : replies ≡ (spelling version (messages.Claim claim) ++ first) ∷ more
    pub rest : IsRest claim (residue p claim) rs (first ∷ more) t

  by_first : (r : ℕ) (rs bytes : List ℕ) (more : List (List ℕ)) (t : MomentState)
      → length more ≡ length rs → All IsBytes (bytes ∷ more) → (q : Result MomentState Reason)
      → read_reply R R.start bytes ≡ q
      → (in_round 0 q
      >>= λ u. run_from R (0 + 1) (drop 1 (r ∷ rs)) (learnt R (r ∷ rs) u) more) ≡ Ok t
      → IsWhole (r ∷ rs) (bytes ∷ more) t
  by_first r rs bytes more t same fine (Err reason) is e = absurd cc
  by_first r rs bytes more t same fine (Ok u) is e =
      let f = first_back bytes u (All-head IsBytes bytes more fine) is in
      record {
        claim = f.claim;
        small = f.small;
        first = f.behind;
        more = more;
        spelled = ap (λ (b : List ℕ). b ∷ more) f.spelled;
        rest = behind_poly f.claim (residue p f.claim) r 0 rs f.behind more u t
            (λ c. rest_back f.claim more rs (value_at p c r) c (0 + 1) t same
            (All-tail IsBytes bytes more fine)) f.poly e;
      }

  -- the tests behind them
  abbrev ended : List ℕ → MomentState → Option ℤ → Result Answer Fault
  ended challenges t claim =
      in_round (length challenges) (claimed (moment_asked version p k power) t claim)

  of_whole : (challenges : List ℕ) (replies : List (List ℕ)) (answer : Answer) (t : MomentState)
      → IsWhole challenges replies t → ended challenges t t.claim ≡ Ok answer
      → (s : Stated) × States version p k power challenges replies answer s
  of_whole challenges replies answer t w e =
      let test = ended_with (t.expected == power) (length challenges) w.claim answer
      (ap (ended challenges t) (sym w.rest.stays) ∙ e) in (
        record { claim = w.claim; polynomials = w.rest.cs },
        record {
          bytes = w.spelled ∙ ap (with_claim version w.claim) w.rest.spelled;
          spelled = record { claim = w.small; polynomials = w.rest.each_is };
          each = w.rest.each;
          claim = test.1;
          sum = w.rest.sum ∙ test.0;
        },
      )

  by_run : (challenges : List ℕ) (replies : List (List ℕ)) (answer : Answer)
      → length replies ≡ length challenges → All IsBytes replies → (q : Result MomentState Fault)
      → run_from R 0 challenges R.start replies ≡ q
      → (q >>= λ t. ended challenges t t.claim) ≡ Ok answer
      → (s : Stated) × States version p k power challenges replies answer s
  unfolding run_from
  by_run challenges replies answer same fine (Err reason) is e = absurd cc
  by_run [] [] answer same fine (Ok t) is e =
      let start : R.start ≡ t = same_ok {E = Fault} _ _ is in
      let none : ended [] R.start None ≡ Ok answer =
      ap (λ (u : MomentState). ended [] u u.claim) start ∙ e in
      absurd cc
  by_run [] (bytes ∷ more) answer same fine (Ok t) is e = absurd (omega (arith, same))
  by_run (r ∷ rs) [] answer same fine (Ok t) is e = absurd (omega (arith, same))
  by_run (r ∷ rs) (bytes ∷ more) answer same fine (Ok t) is e =
      of_whole (r ∷ rs) (bytes ∷ more) answer t
      (by_first r rs bytes more t (omega (arith, same)) fine (read_reply R R.start bytes) refl is) e

  pub are_stated : (challenges : List ℕ) (replies : List (List ℕ)) (answer : Answer)
      → All IsBytes replies
      → IsAccepted (moment_protocol (moment_asked version p k power)) challenges replies answer
      → (s : Stated) × States version p k power challenges replies answer s
  are_stated challenges replies answer fine accepted =
      by_run challenges replies answer accepted.all fine
      (run_from R 0 challenges R.start replies) refl accepted.found
