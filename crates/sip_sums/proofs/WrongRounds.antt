-- A claim that is not the sum is accepted at few vectors of challenges.
use Rattle.std.proofs.Common.{◌≡◌, ◌≢◌, ℕ, ◌*◌, ◌-◌, ◌/◌, ◌<◌, ◌≤◌, ◌^◌, List, length, ℤ, nat_abs, ap, sym, ◌∙◌, arith}
use Rattle.std.proofs.lemmas.Bool.{and_parts}
use Rattle.sip_field.specs.Prime.{IsPrime}
use Rattle.sip_field.specs.Residue.{residue}
use Rattle.sip_counts.specs.Counts.{counted}
use Rattle.sip_counts.specs.Rounds.{adds_up as rounds_add_up}
use Rattle.sip_counts.specs.Strategies.{replies}
use Rattle.sip_sums.specs.AcceptsSum.{Coefficients, product_at, listed, total, is_small_claim, accepts_stated}
use Rattle.sip_sums.proofs.ResidueProducts.{residue_of_total}
use Rattle.sip_sums.proofs.DegreeTwo.{adds_up-listed, are_rounds, last_sum, replies-listed, rounds, sums}
use Rattle.sip_sums.proofs.WrongSmallClaims.{few_wrong_small}

-- a claim that is not the sum is accepted at few vectors
pub few_wrong_sums : (p d : ℕ) (first second : List ℤ) (claim : ℤ) (polynomials : List ℕ → Coefficients) → IsPrime p → length first ≡ 2 ^ d → length second ≡ 2 ^ d
    → nat_abs (total first second) ≤ (p - 1) / 2 → claim ≢ total first second
    → counted p (λ r. accepts_stated p first second r (record { claim = claim; polynomials = replies polynomials r })) d ≤ 2 * d * p ^ (d - 1)
few_wrong_sums p d first second claim polynomials prime lx ly small wrong =
    let some : 0 < p = omega (arith, prime.above_one) in
    few_wrong_small p 2 d claim (total first second) (λ r. accepts_stated p first second r (record { claim = claim; polynomials = replies polynomials r })) (λ v. listed (polynomials v))
    (rounds p first second) (sums p first second) prime (are_rounds p d first second prime.above_one lx ly) (sym (residue_of_total p first second some))
    (record {
      small = λ r h. (and_parts (is_small_claim p claim) _ h).0;
      adds = λ r len below h.
          let deep : 2 ^ d ≡ 2 ^ length r = ap (λ n. 2 ^ n) (sym len) in
          -- the same polynomials, by their coefficients
          ap (λ n. rounds_add_up p 2 n (residue p claim) (replies (λ v. listed (polynomials v)) r) r) (last_sum p first second r some below (lx ∙ deep) (ly ∙ deep))
          ∙ ap (λ cs. rounds_add_up p 2 (product_at p first second r) (residue p claim) cs r) (sym (replies-listed polynomials r))
          ∙ sym (adds_up-listed p (product_at p first second r) (residue p claim) (replies polynomials r) r)
          ∙ (and_parts (is_small_claim p claim) _ h).1;
    })
    small wrong
