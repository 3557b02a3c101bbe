-- A claim that is not the moment is accepted at few vectors of challenges.
use Rattle.std.proofs.Common.{◌≡◌, ◌≢◌, ℕ, ◌*◌, ◌-◌, ◌/◌, ◌^◌, ◌<◌, ◌≤◌, List, length, sum_by, ℤ, nat_abs, refl, ap, sym, ◌∙◌, arith}
use Rattle.std.proofs.lemmas.Bool.{and_parts}
use Rattle.sip_field.specs.Moduli.{m61_modulus}
use Rattle.sip_field.specs.Prime.{IsPrime}
use Rattle.sip_field.specs.Residue.{residue}
use Rattle.sip_field.specs.LawProofs.Primes.{m61_prime}
use Rattle.sip_wire.specs.Table.{most_claim}
use Rattle.sip_counts.specs.Counts.{counted}
use Rattle.sip_counts.specs.Rounds.{adds_up}
use Rattle.sip_counts.specs.Strategies.{replies}
use Rattle.sip_sums.specs.AcceptsSum.{is_small_claim}
use Rattle.sip_sums.proofs.WrongSmallClaims.{few_wrong_small}
use Rattle.sip_moments.specs.AcceptsMoment.{accepts_stated}
use Rattle.sip_moments.specs.Moments.{moment}
use Rattle.sip_moments.proofs.PowerSums.{moment-light}
use Rattle.sip_moments.proofs.Residues.{residue_of_moment}
use Rattle.sip_moments.proofs.TrueRounds.{are_rounds, last_sum, rounds, sums}

pub few_wrong_moments : (p k d : ℕ) (numbers : List ℤ) (claim : ℤ) (polynomials : List ℕ → List ℕ) → IsPrime p → length numbers ≡ 2 ^ d
    → nat_abs (moment k numbers) ≤ (p - 1) / 2 → claim ≢ moment k numbers
    → counted p (λ r. accepts_stated p k numbers r (record { claim = claim; polynomials = replies polynomials r })) d ≤ k * d * p ^ (d - 1)
few_wrong_moments p k d numbers claim polynomials prime long small wrong =
    let some : 0 < p = omega (arith, prime.above_one) in
    few_wrong_small p k d claim (moment k numbers) (λ r. accepts_stated p k numbers r (record { claim = claim; polynomials = replies polynomials r })) polynomials
    (rounds p k numbers) (sums p k numbers) prime (are_rounds p k d numbers prime.above_one long) (sym (residue_of_moment p k numbers some))
    (record {
      small = λ r h. (and_parts (is_small_claim p claim) _ h).0;
      adds = λ r len below h.
          ap (λ n. adds_up p k n (residue p claim) (replies polynomials r) r) (last_sum p k numbers r some below (long ∙ ap (λ n. 2 ^ n) (sym len)))
          ∙ (and_parts (is_small_claim p claim) _ h).1;
    })
    small wrong

-- over 2^61 - 1, where the weight fits
pub few_where_weights_fit : (k d weight : ℕ) (numbers : List ℤ) (claim : ℤ) (polynomials : List ℕ → List ℕ) → 1 ≤ k → length numbers ≡ 2 ^ d → sum_by nat_abs numbers ≤ weight
    → weight ^ k ≤ most_claim → claim ≢ moment k numbers
    → counted m61_modulus (λ r. accepts_stated m61_modulus k numbers r (record { claim = claim; polynomials = replies polynomials r })) d ≤ k * d * m61_modulus ^ (d - 1)
few_where_weights_fit k d weight numbers claim polynomials some long light fits wrong =
    let half : (m61_modulus - 1) / 2 ≡ most_claim = refl in
    few_wrong_moments m61_modulus k d numbers claim polynomials m61_prime long (omega (arith, moment-light k weight numbers some light, fits)) wrong
