-- The residue of a moment is that of the sum of the powers of the residues.
use Rattle.std.proofs.Common.{◌≡◌, ℕ, zero, suc, ◌*◌, ◌%◌, ◌^◌, ◌<◌, ℤ, List, [], ◌∷◌, map, refl, ap, sym, ◌∙◌}
use Rattle.std.specs.Int.{int_pow}
use Rattle.std.proofs.Math.Nat.{pow-zero, pow-succ'}
use Rattle.std.proofs.lemmas.Nat.{mul-mod_second}
use Rattle.sip_field.specs.Residue.{residue}
use Rattle.sip_vector.proofs.TreeResidues.{mod_plus, residue_of_sum}
use Rattle.sip_sums.proofs.ResidueProducts.{mod_twice, residue_of_product}
use Rattle.sip_moments.specs.Moments.{moment}
use Rattle.sip_moments.proofs.IntPowers.{power-suc, power-zero}
use Rattle.sip_moments.proofs.LevelPowers.{powers}

residue_of_power : (p k : ℕ) (x : ℤ) → 0 < p → residue p (int_pow x k) ≡ residue p x ^ k % p
residue_of_power p zero x some = ap (residue p) (power-zero x) ∙ ap (λ n. n % p) (sym (pow-zero (residue p x)))
residue_of_power p (suc k) x some =
    ap (residue p) (power-suc x k) ∙ residue_of_product p x (int_pow x k) some
    ∙ ap (λ n. (residue p x * n) % p) (residue_of_power p k x some)
    ∙ mul-mod_second (residue p x) (residue p x ^ k) p
    ∙ ap (λ n. n % p) (sym (pow-succ' (residue p x) k))

pub residue_of_moment : (p k : ℕ) (numbers : List ℤ) → 0 < p → residue p (moment k numbers) ≡ powers k (map (residue p) numbers) % p
unfolding powers
residue_of_moment p k [] some = refl
residue_of_moment p k (x ∷ xs) some =
    let rest : ℕ = powers k (map (residue p) xs) in
    residue_of_sum p (int_pow x k) (moment k xs) some
    ∙ mod_plus p (residue p (int_pow x k)) (residue p x ^ k) (residue p (moment k xs)) rest
    (ap (λ n. n % p) (residue_of_power p k x some) ∙ mod_twice p (residue p x ^ k))
    (ap (λ n. n % p) (residue_of_moment p k xs some) ∙ mod_twice p rest)
