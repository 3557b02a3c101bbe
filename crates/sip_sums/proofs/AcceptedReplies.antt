-- Accepted replies are those that state a claim and polynomials that add up.
use Rattle.std.proofs.Common.{◌≡◌, ℕ, ◌+◌, ◌≤◌, Bool, true, false, ◌&&◌, ℤ, nat_abs, Option, Some, None, Result, Ok, Err, List, [], ◌∷◌, ◌++◌, length, map, drop, All, refl, sym, ap, ◌∙◌, arith}
use Rattle.std.specs.Prelude.{◌==◌}
use Rattle.std.proofs.lemmas.List.Elements.{All-nil, All-cons, All-head, All-tail}
use Rattle.sip_field.specs.Residue.{residue}
use Rattle.sip_vector.specs.Answers.{Answer, number}
use Rattle.sip_vector.specs.Steps.{◌>>=◌, needs}
use Rattle.sip_wire.specs.declared.message.Message.TheVariants as messages
use Rattle.sip_wire.specs.declared.message.Reason.{Reason}
use Rattle.sip_wire.specs.declared.message.Reason.TheVariants as reasons
use Rattle.sip_wire.specs.declared.version.Version.{Version}
use Rattle.sip_wire.specs.Decoding.{IsBytes}
use Rattle.sip_wire.specs.Spelling.{spelling}
use Rattle.sip_wire.specs.Table.{most_claim}
use Rattle.sip_replies.specs.Protocols.{Rules}
use Rattle.sip_replies.specs.Replies.{Fault, IsAccepted, in_round, learnt, read_reply, run_from}
use Rattle.sip_replies.proofs.Passing.{same_ok}
use Rattle.sip_sums.specs.AcceptsSum.{Coefficients, Stated, adds_up, value_at}
use Rattle.sip_sums.specs.Protocol.{SumState, claimed, sum_asked, sum_protocol, sum_rules}
use Rattle.sip_sums.specs.Stating.{AreElements, States, with_claim}
use Rattle.sip_sums.proofs.ReadFrames.{IsPoly, first_back, poly_back, state, poly_reply}

-- the test behind the last reply was passed
ended_with : (test : Bool) (d : ℕ) (claim : ℤ) (answer : Answer)
    → in_round d (needs test reasons.Root >>= λ _. Ok (number claim)) ≡ Ok answer
    → (test ≡ true) × (answer ≡ number claim)
ended_with true d claim answer e = (refl, sym (same_ok {E = Fault} (number claim) answer e))
ended_with false d claim answer e = absurd cc

module _ (version : Version) (p product : ℕ) where
  abbrev R : Rules SumState
  R = sum_rules version p

  -- ---- replies behind a claim

  -- they state polynomials, and so does the state behind them
  record IsRest (claim : ℤ) (expected : ℕ) (rs : List ℕ) (replies : List (List ℕ))
      (t : SumState) : Type 0 where
    pub cs : List Coefficients
    pub elements : All AreElements cs
    pub spelled : replies ≡ map (poly_reply version) cs
    pub each : length cs ≡ length rs
    pub stays : t.claim ≡ Some claim
    pub sum : adds_up p product expected cs rs ≡ (t.expected == product)

  -- one polynomial, and those behind it
  with_poly : (claim : ℤ) (expected r : ℕ) (rs bytes : List ℕ) (more : List (List ℕ))
      (u t : SumState) (poly : IsPoly version p claim expected bytes u)
      → IsRest claim (value_at p poly.c r) rs more t
      → IsRest claim expected (r ∷ rs) (bytes ∷ more) t
  unfolding adds_up
  with_poly claim expected r rs bytes more u t poly rest = record {
    cs = poly.c ∷ rest.cs;
    elements = All-cons AreElements poly.c rest.cs poly.elements rest.elements;
    spelled = ap (λ (b : List ℕ). b ∷ more) poly.spelled
        ∙ ap (λ (m : List (List ℕ)). poly_reply version poly.c ∷ m) rest.spelled;
    each = omega (arith, rest.each);
    stays = rest.stays;
    sum = ap (λ (b : Bool). b && adds_up p product (value_at p poly.c r) rest.cs rs) poly.sum
        ∙ rest.sum;
  }

  -- what follows a polynomial
  behind_poly : (claim : ℤ) (expected r j : ℕ) (rs bytes : List ℕ) (more : List (List ℕ))
      (u t : SumState)
      → ((c : Coefficients) → run_from R (j + 1) rs (state claim (value_at p c r) c) more ≡ Ok t
      → IsRest claim (value_at p c r) rs more t)
      → IsPoly version p claim expected bytes u
      → run_from R (j + 1) (drop 1 (r ∷ rs)) (learnt R (r ∷ rs) u) more ≡ Ok t
      → IsRest claim expected (r ∷ rs) (bytes ∷ more) t
  behind_poly claim expected r j rs bytes more u t later poly e =
      with_poly claim expected r rs bytes more u t poly (later poly.c
      (ap (λ (v : SumState). run_from R (j + 1) rs (learnt R (r ∷ rs) v) more) poly.then ∙ e))

  by_read : (claim : ℤ) (expected r j : ℕ) (last : Coefficients) (rs bytes : List ℕ)
      (more : List (List ℕ)) (t : SumState)
      → ((c : Coefficients) → run_from R (j + 1) rs (state claim (value_at p c r) c) more ≡ Ok t
      → IsRest claim (value_at p c r) rs more t)
      → IsBytes bytes → (q : Result SumState Reason)
      → read_reply R (state claim expected last) bytes ≡ q
      → (in_round j q
      >>= λ u. run_from R (j + 1) (drop 1 (r ∷ rs)) (learnt R (r ∷ rs) u) more) ≡ Ok t
      → IsRest claim expected (r ∷ rs) (bytes ∷ more) t
  by_read claim expected r j last rs bytes more t later fine (Err reason) is e = absurd cc
  by_read claim expected r j last rs bytes more t later fine (Ok u) is e =
      behind_poly claim expected r j rs bytes more u t later
      (poly_back version p claim expected last bytes u fine is) e

  rest_back : (claim : ℤ) (replies : List (List ℕ)) (rs : List ℕ) (expected : ℕ)
      (last : Coefficients) (j : ℕ) (t : SumState) → length replies ≡ length rs
      → All IsBytes replies → run_from R j rs (state claim expected last) replies ≡ Ok t
      → IsRest claim expected rs replies t
  unfolding run_from adds_up
  rest_back claim [] [] expected last j t same fine e =
      let is : state claim expected last ≡ t = same_ok {E = Fault} _ _ e in
      record {
        cs = [];
        elements = All-nil AreElements;
        spelled = refl;
        each = refl;
        stays = ap (λ (u : SumState). u.claim) (sym is);
        sum = ap (λ (u : SumState). u.expected == product) is;
      }
  rest_back claim [] (r ∷ rs) expected last j t same fine e = absurd (omega (arith, same))
  rest_back claim (bytes ∷ more) [] expected last j t same fine e = absurd (omega (arith, same))
  rest_back claim (bytes ∷ more) (r ∷ rs) expected last j t same fine e =
      by_read claim expected r j last rs bytes more t
      (λ c. rest_back claim more rs (value_at p c r) c (j + 1) t (omega (arith, same))
      (All-tail IsBytes bytes more fine))
      (All-head IsBytes bytes more fine) (read_reply R (state claim expected last) bytes) refl e

  -- ---- all replies

  -- they state this claim and polynomials, and so does the state behind them
  record IsWhole (rs : List ℕ) (replies : List (List ℕ)) (t : SumState) : Type 0 where
    pub claim : ℤ
    pub small : nat_abs claim ≤ most_claim
    pub first : List ℕ
    pub more : List (List ℕ)
    pub spelled : replies ≡ (spelling version (messages.Claim claim) ++ first) ∷ more
    pub rest : IsRest claim (residue p claim) rs (first ∷ more) t

  by_first : (r : ℕ) (rs bytes : List ℕ) (more : List (List ℕ)) (t : SumState)
      → length more ≡ length rs → All IsBytes (bytes ∷ more) → (q : Result SumState Reason)
      → read_reply R R.start bytes ≡ q
      → (in_round 0 q
      >>= λ u. run_from R (0 + 1) (drop 1 (r ∷ rs)) (learnt R (r ∷ rs) u) more) ≡ Ok t
      → IsWhole (r ∷ rs) (bytes ∷ more) t
  by_first r rs bytes more t same fine (Err reason) is e = absurd cc
  by_first r rs bytes more t same fine (Ok u) is e =
      let f = first_back version p bytes u (All-head IsBytes bytes more fine) is in
      record {
        claim = f.claim;
        small = f.small;
        first = f.behind;
        more = more;
        spelled = ap (λ (b : List ℕ). b ∷ more) f.spelled;
        rest = behind_poly f.claim (residue p f.claim) r 0 rs f.behind more u t
            (λ c. rest_back f.claim more rs (value_at p c r) c (0 + 1) t same
            (All-tail IsBytes bytes more fine)) f.poly e;
      }

  -- the tests behind them
  abbrev ended : List ℕ → SumState → Option ℤ → Result Answer Fault
  ended challenges t claim =
      in_round (length challenges) (claimed (sum_asked version p product) t claim)

  of_whole : (challenges : List ℕ) (replies : List (List ℕ)) (answer : Answer) (t : SumState)
      → IsWhole challenges replies t → ended challenges t t.claim ≡ Ok answer
      → (s : Stated) × States version p product challenges replies answer s
  of_whole challenges replies answer t w e =
      let test = ended_with (t.expected == product) (length challenges) w.claim answer
      (ap (ended challenges t) (sym w.rest.stays) ∙ e) in (
        record { claim = w.claim; polynomials = w.rest.cs },
        record {
          bytes = w.spelled ∙ ap (with_claim version w.claim) w.rest.spelled;
          spelled = record { claim = w.small; elements = w.rest.elements };
          each = w.rest.each;
          claim = test.1;
          sum = w.rest.sum ∙ test.0;
        },
      )

  by_run : (challenges : List ℕ) (replies : List (List ℕ)) (answer : Answer)
      → length replies ≡ length challenges → All IsBytes replies → (q : Result SumState Fault)
      → run_from R 0 challenges R.start replies ≡ q
      → (q >>= λ t. ended challenges t t.claim) ≡ Ok answer
      → (s : Stated) × States version p product challenges replies answer s
  unfolding run_from
  by_run challenges replies answer same fine (Err reason) is e = absurd cc
  by_run [] [] answer same fine (Ok t) is e =
      let start : R.start ≡ t = same_ok {E = Fault} _ _ is in
      let none : ended [] R.start None ≡ Ok answer =
      ap (λ (u : SumState). ended [] u u.claim) start ∙ e in
      absurd cc
  by_run [] (bytes ∷ more) answer same fine (Ok t) is e = absurd (omega (arith, same))
  by_run (r ∷ rs) [] answer same fine (Ok t) is e = absurd (omega (arith, same))
  by_run (r ∷ rs) (bytes ∷ more) answer same fine (Ok t) is e =
      of_whole (r ∷ rs) (bytes ∷ more) answer t
      (by_first r rs bytes more t (omega (arith, same)) fine (read_reply R R.start bytes) refl is) e

  pub are_stated : (challenges : List ℕ) (replies : List (List ℕ)) (answer : Answer)
      → All IsBytes replies
      → IsAccepted (sum_protocol (sum_asked version p product)) challenges replies answer
      → (s : Stated) × States version p product challenges replies answer s
  are_stated challenges replies answer fine accepted =
      by_run challenges replies answer accepted.all fine
      (run_from R 0 challenges R.start replies) refl accepted.found
