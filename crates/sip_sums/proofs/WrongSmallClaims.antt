-- A small claim that is wrong is accepted at few vectors of challenges, whatever is summed.
use Rattle.std.proofs.Common.{◌≡◌, ◌≢◌, ℕ, ◌*◌, ◌-◌, ◌/◌, ◌^◌, ◌<◌, ◌≤◌, Bool, true, false, true≢false, List, [], length, All, ℤ, nat_abs, sym, ◌∙◌, inl, inr, arith}
use Rattle.std.proofs.lemmas.Bool.{cases_Bool, leb-true}
use Rattle.std.proofs.lemmas.List.Elements.{All-from_recursion}
use Rattle.sip_field.specs.Prime.{IsPrime}
use Rattle.sip_field.specs.Residue.{residue}
use Rattle.sip_vector.proofs.TreeResidues.{same_from_residue}
use Rattle.sip_counts.specs.Counts.{counted}
use Rattle.sip_counts.specs.Rounds.{AreRounds, adds_up}
use Rattle.sip_counts.specs.Strategies.{replies}
use Rattle.sip_counts.proofs.Vectors.{counted-grows, counted-none}
use Rattle.sip_counts.proofs.WrongClaims.{few_wrong_claims}
use Rattle.sip_sums.specs.AcceptsSum.{is_small_claim}

module _ (p k d : ℕ) (claim right : ℤ) (test : List ℕ → Bool) (said rounds : List ℕ → List ℕ) (sums : List ℕ → ℕ) (prime : IsPrime p) where
  -- what is accepted states a small claim, and adds up from it on
  pub record Accepts : Type 0 where
    pub small : (r : List ℕ) → test r ≡ true → is_small_claim p claim ≡ true
    pub adds : (r : List ℕ) → length r ≡ d → All (λ x. x < p) r → test r ≡ true → adds_up p k (sums r) (residue p claim) (replies said r) r ≡ true

  none_accepted : Accepts → is_small_claim p claim ≡ false → (r : List ℕ) → test r ≡ false
  none_accepted accepts large r = elim (cases_Bool (test r)) [
    | inl t ↦ absurd (true≢false (sym (accepts.small r t) ∙ large))
    | inr f ↦ f
  ]

  pub few_wrong_small : AreRounds p k d rounds sums → sums [] ≡ residue p right → Accepts → nat_abs right ≤ (p - 1) / 2 → claim ≢ right → counted p test d ≤ k * d * p ^ (d - 1)
  few_wrong_small are first accepts fits wrong =
      let some : 0 < p = omega (arith, prime.above_one) in
      elim (cases_Bool (is_small_claim p claim)) [
        | inr large ↦ omega (arith, counted-none p d test (λ r _. none_accepted accepts large r))
        | inl small ↦
            let grows = counted-grows p test (λ r. adds_up p k (sums r) (residue p claim) (replies said r) r) d (λ r len below h. accepts.adds r len (All-from_recursion (λ x. x < p) r below) h) in
            let few = few_wrong_claims p k d said rounds sums (residue p claim) prime are
            (λ same. wrong (same_from_residue p claim right some (leb-true (nat_abs claim) ((p - 1) / 2) small) fits (same ∙ first))) in
            omega (arith, grows, few)
      ]
