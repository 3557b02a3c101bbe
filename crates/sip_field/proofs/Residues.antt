-- Remainders within sums and products, and that residues are remainders.
use Rattle.std.proofs.Common.{◌≡◌, pos, negsuc, ◌+◌, ◌-◌, ◌%◌, ◌/◌, ◌<◌, ◌-ℤ◌, inl, inr, ap, sym, ◌∙◌, arith}
use Rattle.std.proofs.Math.Nat.{mod-lt, mod-add-div, mod-eq_of_lt, add-mod_right, add-mod-mod, mod-add-mod}
use Rattle.std.proofs.lemmas.Nat.{mul-mod_first, mul-mod_second}
use Rattle.std.proofs.lemmas.Bool.{cases_lt}
use Rattle.std.proofs.lemmas.Int.{ints}
use Rattle.sip_field.specs.Residue.{ResiduesAreRemainders, DifferencesAreResidues}

-- a remainder of a part is the remainder of the whole: with these a contract over remainders
-- follows from those of the calls
pub ruleset residues = (add-mod-mod, mod-add-mod, mul-mod_first, mul-mod_second)

pub residues_are_remainders : ResiduesAreRemainders
residues_are_remainders p (pos n) some = (mod-lt n some, (pos (n / p), omega (arith, ints, mod-add-div n p)))
residues_are_remainders p (negsuc n) some =
    let r : n % p < p = mod-lt n some in
    (omega arith, (negsuc (n / p), omega (arith, ints, mod-add-div n p)))

pub differences_are_residues : DifferencesAreResidues
differences_are_residues p a b some le = elim (cases_lt a b) [
  | inl less ↦
      let below : pos a -ℤ pos b ≡ negsuc (b - a - 1) = omega (arith, ints) in
      let left : a + (p - b) < p = omega arith in
      let right : b - a - 1 < p = omega arith in
      rw below (mod-eq_of_lt left ∙ (let e : a + (p - b) ≡ p - 1 - (b - a - 1) = omega arith in e)
      ∙ ap (λ n. p - 1 - n) (sym (mod-eq_of_lt right)))
  | inr more ↦
      let above : pos a -ℤ pos b ≡ pos (a - b) = omega (arith, ints) in
      rw above (ap (λ n. n % p) (let e : a + (p - b) ≡ a - b + p = omega arith in e) ∙ add-mod_right (a - b) p)
]
