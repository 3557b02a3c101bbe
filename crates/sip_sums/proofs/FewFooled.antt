-- A strategy has wrong replies accepted at few vectors of challenges.
use Rattle.std.proofs.Common.{◌≡◌, ◌≢◌, ℕ, zero, suc, ◌*◌, ◌-◌, ◌/◌, ◌<◌, ◌≤◌, ◌^◌, Bool, true, not, Option, Some, None, List, [], ◌∷◌, length, ℤ, nat_abs, refl, ap, sym, ◌∙◌, arith, inl, inr}
use Rattle.std.specs.Ordering.{int_eq}
use Rattle.std.specs.Cmp.{signed_Decides}
use Rattle.std.proofs.lemmas.Bool.{cases_Bool, and_parts, and_from, not-true, both_ways}
use Rattle.std.proofs.lemmas.List.Elements.{All-nil}
use Rattle.sip_field.specs.Prime.{IsPrime}
use Rattle.sip_field.specs.Moduli.{m61_modulus}
use Rattle.sip_field.specs.Residue.{residue}
use Rattle.sip_wire.specs.Table.{most_claim}
use Rattle.sip_counts.specs.Counts.{counted}
use Rattle.sip_counts.specs.Strategies.{Strategy, IsOfBytes, replies, all_there, is_wrong, takes_wrong}
use Rattle.sip_counts.proofs.EachVector.{counted-empty, counted-longer, counted-longer_grows}
use Rattle.sip_wire.specs.declared.version.Version.{Version}
use Rattle.sip_replies.specs.Replies.{Fault, run}
use Rattle.sip_sums.specs.AcceptsSum.{is_small_claim, product_at, adds_up, accepts_stated, total}
use Rattle.sip_sums.specs.Counting.{is_said, said, is_right, accepts_sum, accepts_small}
use Rattle.sip_sums.specs.Protocol.{SumState, sum_rules}
use Rattle.sip_counts.proofs.Talks.{all_there-nil, bytes_in, same_some}
use Rattle.sip_replies.proofs.Passing.{run_none, same_ok}
use Rattle.sip_sums.proofs.ReadSums.{claim_in}
use Rattle.sip_sums.proofs.SmallClaims.{claim_small}
use Rattle.sip_sums.proofs.SaidSums.{claim_said, polynomials_said, said_stated, accepted_parts}
use Rattle.sip_sums.proofs.WrongRounds.{few_wrong_sums}

-- ---- the same claim

-- the test says whether this sum is stated
pub says_decides : (sum : ℤ) (o : Option ℤ) → (is_said (int_eq sum) o ≡ true → o ≡ Some sum) × (o ≡ Some sum → is_said (int_eq sum) o ≡ true)
says_decides sum None = (λ h. absurd (cc), λ e. absurd (cc))
says_decides sum (Some claim) = (
  (λ h. ap (λ (z : ℤ). Some z) (sym ((signed_Decides sum claim).0 h))),
  (λ e. (signed_Decides sum claim).1 (sym (same_some claim sum e))),
)

-- ---- where wrong replies are taken

record Taken (version : Version) (p : ℕ) (first second : List ℤ) (strategy : Strategy) (r : List ℕ) : Type 0 where
  all : List (List ℕ)
  there : all_there (replies strategy r) ≡ Some all
  good : accepts_sum version p first second r all ≡ true
  wrong : said version p all ≢ Some (total first second)

taken_at : (version : Version) (p : ℕ) (first second : List ℤ) (strategy : Strategy) (test : List ℕ → List (List ℕ) → Bool) (r : List ℕ) → ((all : List (List ℕ)) → test r all ≡ true → accepts_sum version p first second r all ≡ true)
    → takes_wrong test (is_right version p (total first second)) strategy r ≡ true → (t : Taken version p first second strategy r) × (test r t.all ≡ true)
unfolding takes_wrong
taken_at version p first second strategy test r good h = by_all (all_there (replies strategy r)) refl h
  where
    by_all : (o : Option (List (List ℕ))) → all_there (replies strategy r) ≡ o → is_wrong (test r) (is_right version p (total first second)) o ≡ true → (t : Taken version p first second strategy r) × (test r t.all ≡ true)
    by_all None is k = absurd (cc)
    by_all (Some all) is k =
        let right : Bool = is_right version p (total first second) all in
        let both = and_parts (test r all) (not right) k in (
          record {
            all = all;
            there = is;
            good = good all both.0;
            wrong = λ same. both_ways right (not-true right both.1) ((says_decides (total first second) (said version p all)).1 same);
          },
          both.0,
        )

-- ---- the count

-- the test accepts no more than is accepted, and a claim that it accepts is small
abbrev Accepts : Version → ℕ → List ℤ → List ℤ → Strategy → (List ℕ → List (List ℕ) → Bool) → Type 0
Accepts version p first second strategy test =
    (r : List ℕ) (all : List (List ℕ)) → test r all ≡ true → accepts_sum version p first second r all ≡ true

abbrev IsSmall : Version → ℕ → Strategy → (List ℕ → List (List ℕ) → Bool) → Type 0
IsSmall version p strategy test =
    (r : List ℕ) (all : List (List ℕ)) → all_there (replies strategy r) ≡ Some all → test r all ≡ true → said version p all ≡ Some (claim_said version strategy) → is_small_claim p (claim_said version strategy) ≡ true

module _ (version : Version) (p : ℕ) (first second : List ℤ) (prime : IsPrime p) (strategy : Strategy) (test : List ℕ → List (List ℕ) → Bool) (good : Accepts version p first second strategy test) (small : IsSmall version p strategy test) where
  abbrev wrongly : List ℕ → Bool
  wrongly = takes_wrong test (is_right version p (total first second)) strategy

  abbrev stated : List ℕ → Bool
  stated r = accepts_stated p first second r (record { claim = claim_said version strategy; polynomials = replies (polynomials_said version strategy) r })

  -- no replies state no claim
  none_accepted : wrongly [] ≡ true → ⊥
  none_accepted h =
      let t = taken_at version p first second strategy test [] (good []) h in
      let nil : [] ≡ t.0.all = all_there-nil t.0.all t.0.there in
      let a = accepted_parts version p first second [] t.0.all t.0.good in
      let same : (sum_rules version p).start ≡ a.s = same_ok {E = Fault} _ _ (sym (run_none (sum_rules version p) 0 [] (sum_rules version p).start) ∙ ap (run (sum_rules version p) []) nil ∙ a.states) in
      let none : None ≡ Some a.some = ap (λ (s : SumState). s.claim) same ∙ a.claim in
      absurd (cc)

  -- what is accepted adds up, and the claim is not the sum
  some_accepted : (x : ℕ) (r : List ℕ) → wrongly (x ∷ r) ≡ true → (stated (x ∷ r) ≡ true) × (claim_said version strategy ≢ total first second)
  some_accepted x r h =
      let t = taken_at version p first second strategy test (x ∷ r) (good (x ∷ r)) h in
      let product : ℕ = product_at p first second (x ∷ r) in
      let claim : ℤ = claim_said version strategy in
      let a = accepted_parts version p first second (x ∷ r) t.0.all t.0.good in
      let s = said_stated version p product x strategy r t.0.all a.s t.0.there a.states a.ends in (
        and_from (is_small_claim p claim) (adds_up p product (residue p claim) (replies (polynomials_said version strategy) (x ∷ r)) (x ∷ r)) (small (x ∷ r) t.0.all t.0.there t.1 s.says) s.adds,
        λ e. t.0.wrong (s.says ∙ ap (λ (z : ℤ). Some z) e),
      )

  -- so few vectors are counted
  pub few_fooled : (d : ℕ) → length first ≡ 2 ^ d → length second ≡ 2 ^ d → nat_abs (total first second) ≤ (p - 1) / 2 → counted p wrongly d ≤ 2 * d * p ^ (d - 1)
  few_fooled zero lx ly fits = omega (arith, counted-empty p wrongly none_accepted)
  few_fooled (suc m) lx ly fits = elim (cases_Bool (int_eq (claim_said version strategy) (total first second))) [
    | inl same ↦ omega (arith, counted-longer p m wrongly (λ x v h. (some_accepted x v h).1 ((signed_Decides (claim_said version strategy) (total first second)).0 same)))
    | inr differ ↦
        let few = few_wrong_sums p (suc m) first second (claim_said version strategy) (polynomials_said version strategy) prime lx ly fits
        (λ e. both_ways (int_eq (claim_said version strategy) (total first second)) differ ((signed_Decides (claim_said version strategy) (total first second)).1 e)) in
        let grows = counted-longer_grows p m wrongly stated (λ x v h. (some_accepted x v h).0) in
        omega arith
  ]

-- the claim of a strategy of bytes is small
pub strategy_small : (version : Version) (strategy : Strategy) → IsOfBytes strategy → is_small_claim m61_modulus (claim_said version strategy) ≡ true
unfolding claim_said bytes_in
strategy_small version strategy are = by_reply (strategy []) refl
  where
    by_reply : (o : Option (List ℕ)) → strategy [] ≡ o → is_small_claim m61_modulus (claim_in version (bytes_in o)) ≡ true
    by_reply None is = claim_small version [] (All-nil (λ b. b < 256))
    by_reply (Some bytes) is = claim_small version bytes (are [] bytes is)

-- over any prime, where the claim is tested to be small
pub few_fooled_small : (version : Version) (p d : ℕ) (first second : List ℤ) (strategy : Strategy) → IsPrime p → length first ≡ 2 ^ d → length second ≡ 2 ^ d → nat_abs (total first second) ≤ (p - 1) / 2
    → counted p (takes_wrong (accepts_small version p first second) (is_right version p (total first second)) strategy) d ≤ 2 * d * p ^ (d - 1)
few_fooled_small version p d first second strategy prime lx ly fits =
    few_fooled version p first second prime strategy (accepts_small version p first second)
    (λ r all h. (and_parts (accepts_sum version p first second r all) (is_said (is_small_claim p) (said version p all)) h).0)
    (λ r all there h says. sym (ap (is_said (is_small_claim p)) says) ∙ (and_parts (accepts_sum version p first second r all) (is_said (is_small_claim p) (said version p all)) h).1)
    d lx ly fits

-- over 2^61 - 1, where the replies are bytes
pub few_fooled_bytes : (version : Version) (d : ℕ) (first second : List ℤ) (strategy : Strategy) → IsPrime m61_modulus → length first ≡ 2 ^ d → length second ≡ 2 ^ d → nat_abs (total first second) ≤ most_claim → IsOfBytes strategy
    → counted m61_modulus (takes_wrong (accepts_sum version m61_modulus first second) (is_right version m61_modulus (total first second)) strategy) d ≤ 2 * d * m61_modulus ^ (d - 1)
few_fooled_bytes version d first second strategy prime lx ly fits bytes =
    few_fooled version m61_modulus first second prime strategy (accepts_sum version m61_modulus first second)
    (λ r all h. h)
    (λ r all there h says. strategy_small version strategy bytes)
    d lx ly (let half : (m61_modulus - 1) / 2 ≡ most_claim = refl in omega arith)
