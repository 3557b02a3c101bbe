-- What whole replies state, and what it comes to: the protocol, state by state, is told by the
-- lists of what is given and what is expected.
use Rattle.std.proofs.Common.{◌≡◌, ℕ, ◌+◌, ◌<◌, Bool, true, false, not, ◌&&◌, cond, ℤ, Option, Some, None, Result, Ok, Err, List, [], ◌∷◌, ◌++◌, length, map, drop, All, inl, inr, refl, sym, ap, ◌∙◌, arith}
use Rattle.std.specs.Prelude.{◌==◌, is_none}
use Rattle.std.specs.List.{position_from, zip}
use Rattle.std.proofs.lemmas.Bool.{cases_eq, eq-eqb, ne_eqb}
use Rattle.std.proofs.lemmas.List.Elements.{All-head, All-tail}
use Rattle.sip_field.specs.Residue.{residue}
use Rattle.sip_vector.specs.Answers.{Answer, number}
use Rattle.sip_vector.specs.Steps.{◌>>=◌, needs}
use Rattle.sip_wire.specs.declared.message.Message.TheVariants as messages
use Rattle.sip_wire.specs.declared.message.Reason.{Reason}
use Rattle.sip_wire.specs.declared.message.Reason.TheVariants as reasons
use Rattle.sip_wire.specs.declared.version.Version.{Version}
use Rattle.sip_wire.specs.Spelling.{spelling}
use Rattle.sip_replies.specs.Protocols.{Rules}
use Rattle.sip_replies.specs.Replies.{Fault, in_round, learnt, run_from, verdict}
use Rattle.sip_replies.proofs.Passing.{run_step}
use Rattle.sip_sums.specs.AcceptsSum.{Coefficients, Stated, adds_up, sum_of_ends, value_at}
use Rattle.sip_sums.specs.Protocol.{SumState, claimed, sum_asked, sum_protocol, sum_rules}
use Rattle.sip_sums.specs.Stating.{AreElements, HasSpelling, first_difference, judged, outcome, stated_replies, with_claim}
use Rattle.sip_sums.proofs.ReadFrames.{first_read, poly_read, state, tested, poly_reply}

-- the two differ
abbrev differs : ℕ × ℕ → Bool
differs x = not (x.0 == x.1)

-- the first difference, from the place j on
abbrev difference : ℕ → ℕ → ℕ → List Coefficients → List ℕ → ℕ → Option ℕ
difference p product expected cs rs j =
    position_from differs j
    (zip (map (sum_of_ends p) cs ++ product ∷ [])
    (expected ∷ map (λ x. value_at p x.0 x.1) (zip cs rs)))

eqb_sym : (a b : ℕ) → (a == b) ≡ (b == a)
eqb_sym a b = elim (cases_eq a b) [
  | inl same ↦ eq-eqb a b same ∙ sym (eq-eqb b a (sym same))
  | inr other ↦ ne_eqb a b other ∙ sym (ne_eqb b a (λ e. other (sym e)))
]

-- ---- polynomials add up where nothing differs

none_more : (test : Bool) (j : ℕ) (o : Option ℕ) (rest : Bool) → rest ≡ is_none o
    → (test && rest) ≡ is_none (cond (not test) (Some j) o)
none_more true j o rest e = e
none_more false j o rest e = refl

abbrev no_place : Option ℕ
no_place = None

none_last : (test : Bool) (j : ℕ) → test ≡ is_none (cond (not test) (Some j) no_place)
none_last true j = refl
none_last false j = refl

sums_same : (p product : ℕ) (cs : List Coefficients) (rs : List ℕ) (expected j : ℕ)
    → length cs ≡ length rs
    → adds_up p product expected cs rs ≡ is_none (difference p product expected cs rs j)
unfolding adds_up
sums_same p product [] [] expected j same =
    eqb_sym expected product ∙ none_last (product == expected) j
sums_same p product [] (r ∷ rs) expected j same = absurd (omega (arith, same))
sums_same p product (c ∷ cs) [] expected j same = absurd (omega (arith, same))
sums_same p product (c ∷ cs) (r ∷ rs) expected j same =
    none_more (sum_of_ends p c == expected) j (difference p product (value_at p c r) cs rs (j + 1))
    (adds_up p product (value_at p c r) cs rs)
    (sums_same p product cs rs (value_at p c r) (j + 1) (omega (arith, same)))

pub sums_are_same : (p product : ℕ) (challenges : List ℕ) (s : Stated)
    → length s.polynomials ≡ length challenges
    → adds_up p product (residue p s.claim) s.polynomials challenges
    ≡ is_none (first_difference p product challenges s)
sums_are_same p product challenges s same =
    sums_same p product s.polynomials challenges (residue p s.claim) 0 same

-- ---- what stated replies come to

abbrev fault : ℕ → Reason → Result Answer Fault
fault j reason = Err (record { round = j; reason = reason })

module _ (version : Version) (p product : ℕ) where
  abbrev R : Rules SumState
  R = sum_rules version p

  -- the tests behind the last of d replies
  abbrev ended : ℕ → Result SumState Fault → Result Answer Fault
  ended d r = r >>= λ t. in_round d (claimed (sum_asked version p product) t t.claim)

  -- the last difference
  by_root : (test : Bool) (d j : ℕ) (claim : ℤ) → j ≡ d
      → in_round d (needs test reasons.Root >>= λ _. Ok (number claim))
      ≡ outcome d claim (cond (not test) (Some j) None)
  by_root true d j claim same = refl
  by_root false d j claim same =
      ap (λ (k : ℕ). fault k reasons.Root) (sym same)
      ∙ ap (λ (b : Bool). fault j (cond b reasons.Root reasons.Sum)) (sym (eq-eqb j d same))

  -- one before it
  by_sum : (test : Bool) (d j : ℕ) (claim : ℤ) (s : SumState)
      (then : SumState → Result SumState Fault) (o : Option ℕ) → j < d
      → ended d (then s) ≡ outcome d claim o
      → ended d (in_round j (needs test reasons.Sum >>= λ _. Ok s) >>= then)
      ≡ outcome d claim (cond (not test) (Some j) o)
  by_sum true d j claim s then o less later = later
  by_sum false d j claim s then o less later =
      ap (λ (b : Bool). fault j (cond b reasons.Root reasons.Sum))
      (sym (ne_eqb j d (λ e. absurd (omega (arith, e, less)))))

  -- replies from a state on
  later_judged : (claim : ℤ) (cs : List Coefficients) (rs : List ℕ) (expected : ℕ)
      (last : Coefficients) (j d : ℕ) → length cs ≡ length rs → j + length rs ≡ d
      → All AreElements cs
      → ended d (run_from R j rs (state claim expected last) (map (poly_reply version) cs))
      ≡ outcome d claim (difference p product expected cs rs j)
  unfolding run_from
  later_judged claim [] [] expected last j d same count h =
      ap (λ (b : Bool). in_round d (needs b reasons.Root >>= λ _. Ok (number claim)))
      (eqb_sym expected product)
      ∙ by_root (product == expected) d j claim (omega (arith, count))
  later_judged claim [] (r ∷ rs) expected last j d same count h = absurd (omega (arith, same))
  later_judged claim (c ∷ cs) [] expected last j d same count h = absurd (omega (arith, same))
  later_judged claim (c ∷ cs) (r ∷ rs) expected last j d same count h =
      ap (ended d) (run_step R j (r ∷ rs) (state claim expected last) (poly_reply version c)
      (map (poly_reply version) cs) (tested p claim expected c)
      (poly_read version p claim expected last c (All-head AreElements c cs h)))
      ∙ by_sum (sum_of_ends p c == expected) d j claim (state claim expected c)
      (λ t. run_from R (j + 1) (drop 1 (r ∷ rs)) (learnt R (r ∷ rs) t) (map (poly_reply version) cs))
      (difference p product (value_at p c r) cs rs (j + 1)) (omega (arith, count))
      (later_judged claim cs rs (value_at p c r) c (j + 1) d (omega (arith, same))
      (omega (arith, count)) (All-tail AreElements c cs h))

  -- all replies
  all_judged : (claim : ℤ) (cs : List Coefficients) (rs : List ℕ)
      → HasSpelling (record { claim = claim; polynomials = cs }) → length cs ≡ length rs
      → 0 < length rs
      → ended (length rs) (run_from R 0 rs R.start (with_claim version claim (map (poly_reply version) cs)))
      ≡ outcome (length rs) claim (difference p product (residue p claim) cs rs 0)
  all_judged claim cs [] h same some = absurd (omega (arith, some))
  all_judged claim [] (r ∷ rs) h same some = absurd (omega (arith, same))
  all_judged claim (c ∷ cs) (r ∷ rs) h same some =
      let d = length (r ∷ rs) in
      ap (ended d) (run_step R 0 (r ∷ rs) R.start
      (spelling version (messages.Claim claim) ++ poly_reply version c) (map (poly_reply version) cs)
      (tested p claim (residue p claim) c)
      (first_read version p claim c h.claim (All-head AreElements c cs h.elements)))
      ∙ by_sum (sum_of_ends p c == residue p claim) d 0 claim (state claim (residue p claim) c)
      (λ t. run_from R (0 + 1) (drop 1 (r ∷ rs)) (learnt R (r ∷ rs) t) (map (poly_reply version) cs))
      (difference p product (value_at p c r) cs rs (0 + 1)) (omega arith)
      (later_judged claim cs rs (value_at p c r) c (0 + 1) d (omega (arith, same))
      (omega arith) (All-tail AreElements c cs h.elements))

  pub are_judged : (challenges : List ℕ) (s : Stated) → HasSpelling s
      → length s.polynomials ≡ length challenges → 0 < length challenges
      → verdict (sum_protocol (sum_asked version p product)) challenges (stated_replies version s)
      ≡ judged p product challenges s
  are_judged challenges s h same some = all_judged s.claim s.polynomials challenges h same some
