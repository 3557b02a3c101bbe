-- What whole replies state is accepted exactly where it adds up: the protocol, state by state, is the
-- check over whole lists.
use Rattle.std.proofs.Common.{◌≡◌, ℕ, ◌+◌, ◌<◌, ◌≤◌, Bool, true, false, ◌&&◌, is_ok, ℤ, nat_abs, Result, Ok, List, [], ◌∷◌, ◌++◌, length, map, drop, All, refl, sym, ap, ◌∙◌, arith}
use Rattle.std.specs.Prelude.{◌==◌}
use Rattle.std.proofs.lemmas.Bool.{eq-eqb, le-leb}
use Rattle.std.proofs.lemmas.List.{append-nil, length-map}
use Rattle.std.proofs.lemmas.List.Elements.{All-head, All-tail}
use Rattle.sip_field.specs.Moduli.{m61_modulus}
use Rattle.sip_field.specs.Residue.{residue}
use Rattle.sip_vector.specs.Answers.{number}
use Rattle.sip_vector.specs.Steps.{◌>>=◌, needs}
use Rattle.sip_wire.specs.declared.kind.Place.TheVariants as places
use Rattle.sip_wire.specs.declared.message.Message.TheVariants as messages
use Rattle.sip_wire.specs.declared.message.Reason.{Reason}
use Rattle.sip_wire.specs.declared.message.Reason.TheVariants as reasons
use Rattle.sip_wire.specs.declared.version.Version.{Version}
use Rattle.sip_wire.specs.Spelling.{spelling}
use Rattle.sip_wire.specs.Table.{most_claim, most_degree}
use Rattle.sip_wire.proofs.Longest.{claim_fits}
use Rattle.sip_wire.proofs.ReadingLaws.{read_frame-spelling}
use Rattle.sip_wire.proofs.SmallNumbers.{in_range}
use Rattle.sip_counts.specs.Rounds.{adds_up, sum_of_ends, value_at}
use Rattle.sip_replies.specs.declared.check.More.TheVariants as mores
use Rattle.sip_replies.specs.Protocols.{Rules}
use Rattle.sip_replies.specs.Replies.{Fault, in_round, learnt, read_reply, run_from, step_says, verdict}
use Rattle.sip_replies.proofs.Passing.{run_step}
use Rattle.sip_replies.proofs.Reading.{read_reply-step}
use Rattle.sip_sums.specs.Stating.{with_claim}
use Rattle.sip_moments.specs.AcceptsMoment.{Stated, accepts_stated, power_at}
use Rattle.sip_moments.specs.Counting.{accepts_moment}
use Rattle.sip_moments.specs.Protocol.{MomentState, claimed, moment_asked, moment_protocol, moment_rules}
use Rattle.sip_moments.specs.Stating.{HasSpelling, IsPolynomial, power_message, stated_replies}
use Rattle.sip_moments.proofs.PowerFrames.{power_spelled}
use Rattle.sip_moments.proofs.ReadMoments.{known, tested_step}

-- the reply of a polynomial alone
abbrev pub power_reply : Version → List ℕ → List ℕ
power_reply version c = spelling version (power_message c)

-- what a polynomial of the degree that was tested makes of the state
abbrev pub tested : ℕ → ℤ → ℕ → List ℕ → Result MomentState Reason
tested p claim expected c =
    needs (sum_of_ends p c == expected) reasons.Sum >>= λ _. Ok (known claim expected c)

module _ (version : Version) (p k power : ℕ) (low : k ≤ most_degree) where
  abbrev pub R : Rules MomentState
  R = moment_rules version p k

  ends_here : (f : MomentState → List ℕ → Result MomentState Reason) (long test : Bool)
      (s : MomentState) → long ≡ true
      → step_says f [] (tested_step long test s) ≡ (needs test reasons.Sum >>= λ _. Ok s)
  ends_here f true true s is = refl
  ends_here f true false s is = refl
  ends_here f false test s is = absurd (cc)

  -- a later reply
  pub power_read : (claim : ℤ) (expected : ℕ) (last c : List ℕ) → IsPolynomial k c
      → read_reply R (known claim expected last) (power_reply version c)
      ≡ tested p claim expected c
  power_read claim expected last c h =
      let s = known claim expected last in
      let bytes = power_reply version c in
      let spelled = power_spelled version k c low h in
      ap (read_reply R s) (sym (append-nil bytes))
      ∙ read_reply-step R s (bytes ++ []) [] (power_message c)
      (tested_step (length c == k + 1) (sum_of_ends p c == expected) (known claim expected c))
      (read_frame-spelling version (places.Power k) (power_message c) [] spelled.0 spelled.1 tt)
      refl
      ∙ ends_here (read_reply R) (length c == k + 1) (sum_of_ends p c == expected)
      (known claim expected c) (eq-eqb (length c) (k + 1) h.long)

  -- reply 0
  pub first_read : (claim : ℤ) (c : List ℕ) → nat_abs claim ≤ most_claim → IsPolynomial k c
      → read_reply R R.start (spelling version (messages.Claim claim) ++ power_reply version c)
      ≡ tested p claim (residue p claim) c
  first_read claim c small h =
      let range = in_range claim small in
      let rest = power_reply version c in
      read_reply-step R R.start (spelling version (messages.Claim claim) ++ rest) rest
      (messages.Claim claim) (Ok (mores.Due, known claim (residue p claim) []))
      (read_frame-spelling version places.Claim (messages.Claim claim) rest
      (claim_fits version claim range small) refl range) refl
      ∙ power_read claim (residue p claim) [] c h

  -- the tests behind the last of d replies
  abbrev passes : ℕ → Result MomentState Fault → Bool
  passes d r =
      is_ok (r >>= λ t. in_round d (claimed (moment_asked version p k power) t t.claim))

  by_root : (test : Bool) (d : ℕ) (claim : ℤ)
      → is_ok (in_round d (needs test reasons.Root >>= λ _. Ok (number claim))) ≡ test
  by_root true d claim = refl
  by_root false d claim = refl

  by_sum : (long test : Bool) (d j : ℕ) (s : MomentState) (then : MomentState → Result MomentState Fault)
      (rest : Bool) → long ≡ true → passes d (then s) ≡ rest
      → passes d (in_round j (needs test reasons.Sum >>= λ _. Ok s) >>= then)
      ≡ ((long && test) && rest)
  by_sum true true d j s then rest is later = later
  by_sum true false d j s then rest is later = refl
  by_sum false test d j s then rest is later = absurd (cc)

  -- replies from a state on
  later_pass : (claim : ℤ) (cs : List (List ℕ)) (rs : List ℕ) (expected : ℕ) (last : List ℕ)
      (j d : ℕ) → length cs ≡ length rs → All (IsPolynomial k) cs
      → passes d (run_from R j rs (known claim expected last) (map (power_reply version) cs))
      ≡ adds_up p k power expected cs rs
  unfolding run_from adds_up
  later_pass claim [] [] expected last j d same h = by_root (expected == power) d claim
  later_pass claim [] (r ∷ rs) expected last j d same h = absurd (omega (arith, same))
  later_pass claim (c ∷ cs) [] expected last j d same h = absurd (omega (arith, same))
  later_pass claim (c ∷ cs) (r ∷ rs) expected last j d same h =
      let here = All-head (IsPolynomial k) c cs h in
      ap (passes d) (run_step R j (r ∷ rs) (known claim expected last) (power_reply version c)
      (map (power_reply version) cs) (tested p claim expected c)
      (power_read claim expected last c here))
      ∙ by_sum (length c == k + 1) (sum_of_ends p c == expected) d j (known claim expected c)
      (λ t. run_from R (j + 1) (drop 1 (r ∷ rs)) (learnt R (r ∷ rs) t) (map (power_reply version) cs))
      (adds_up p k power (value_at p c r) cs rs) (eq-eqb (length c) (k + 1) here.long)
      (later_pass claim cs rs (value_at p c r) c (j + 1) d (omega (arith, same))
      (All-tail (IsPolynomial k) c cs h))

  -- all replies
  all_pass : (claim : ℤ) (cs : List (List ℕ)) (rs : List ℕ)
      → HasSpelling k (record { claim = claim; polynomials = cs }) → length cs ≡ length rs
      → 0 < length rs
      → passes (length rs)
      (run_from R 0 rs R.start (with_claim version claim (map (power_reply version) cs)))
      ≡ adds_up p k power (residue p claim) cs rs
  unfolding adds_up
  all_pass claim cs [] h same some = absurd (omega (arith, some))
  all_pass claim [] (r ∷ rs) h same some = absurd (omega (arith, same))
  all_pass claim (c ∷ cs) (r ∷ rs) h same some =
      let d = length (r ∷ rs) in
      let here = All-head (IsPolynomial k) c cs h.polynomials in
      ap (passes d) (run_step R 0 (r ∷ rs) R.start
      (spelling version (messages.Claim claim) ++ power_reply version c)
      (map (power_reply version) cs) (tested p claim (residue p claim) c)
      (first_read claim c h.claim here))
      ∙ by_sum (length c == k + 1) (sum_of_ends p c == residue p claim) d 0
      (known claim (residue p claim) c)
      (λ t. run_from R (0 + 1) (drop 1 (r ∷ rs)) (learnt R (r ∷ rs) t)
      (map (power_reply version) cs))
      (adds_up p k power (value_at p c r) cs rs) (eq-eqb (length c) (k + 1) here.long)
      (later_pass claim cs rs (value_at p c r) c (0 + 1) d (omega (arith, same))
      (All-tail (IsPolynomial k) c cs h.polynomials))

  pub are_passed : (challenges : List ℕ) (s : Stated) → HasSpelling k s
      → length s.polynomials ≡ length challenges → 0 < length challenges
      → is_ok (verdict (moment_protocol (moment_asked version p k power)) challenges
      (stated_replies version s))
      ≡ adds_up p k power (residue p s.claim) s.polynomials challenges
  are_passed challenges s h same some = all_pass s.claim s.polynomials challenges h same some

-- a claim is no reply of its own
length-with_claim : (version : Version) (claim : ℤ) (replies : List (List ℕ))
    → length (with_claim version claim replies) ≡ length replies
length-with_claim version claim [] = refl
length-with_claim version claim (bytes ∷ more) = refl

pub are_accepted : (version : Version) (k : ℕ) (numbers : List ℤ) (challenges : List ℕ) (s : Stated)
    → k ≤ most_degree → HasSpelling k s → length s.polynomials ≡ length challenges
    → 0 < length challenges
    → accepts_moment version m61_modulus k numbers challenges (stated_replies version s)
    ≡ accepts_stated m61_modulus k numbers challenges s
are_accepted version k numbers challenges s low h same some =
    let p = m61_modulus in
    let power = power_at p k numbers challenges in
    let replies = stated_replies version s in
    let adds = adds_up p k power (residue p s.claim) s.polynomials challenges in
    let found = verdict (moment_protocol (moment_asked version p k power)) challenges replies in
    let count : length replies ≡ length challenges =
    length-with_claim version s.claim _
    ∙ length-map s.polynomials (λ (c : List ℕ). power_reply version c) ∙ same in
    let test : is_ok found ≡ adds = are_passed version p k power low challenges s h same some in
    ap (λ (b : Bool). b && is_ok found) (eq-eqb (length replies) (length challenges) count)
    ∙ test
    ∙ ap (λ (b : Bool). b && adds) (sym (le-leb (nat_abs s.claim) most_claim h.claim))
