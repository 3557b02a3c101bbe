-- Running products of residues, one factor of a level after another.
use Rattle.std.proofs.Common.{◌≡◌, ℕ, ◌+◌, ◌-◌, ◌*◌, ◌%◌, ◌<◌, ◌≤◌, List, [], length, get_or, drop, sym, ◌∙◌, ap, arith}
use Rattle.std.proofs.Math.Nat.{mod-eq_of_lt}
use Rattle.std.proofs.lemmas.List.{drop_all}
use Rattle.std.proofs.lemmas.Nat.{mul-mod_first, mul-mod_second}

-- one times a residue is that residue
pub one_times : (p n : ℕ) → n < p → (1 % p * n) % p ≡ n
one_times p n below = mul-mod_first 1 n p ∙ ap (λ x. x % p) (let same : 1 * n ≡ n = omega arith in same) ∙ mod-eq_of_lt below

-- a factor is taken from what is still to come into the product
pub factor_taken : (p v f n : ℕ) → ((v * f) % p * n) % p ≡ (v * ((f * n) % p)) % p
factor_taken p v f n =
    mul-mod_first (v * f) n p ∙ ap (λ x. x % p) (let same : v * f * n ≡ v * (f * n) = omega arith in same) ∙ sym (mul-mod_second v (f * n) p)

-- the challenge of level k + 1, which a seat keeps under the number k
pub at_level : (challenges : List ℕ) (k : ℕ) → get_or challenges (k + 1 - 1) 0 ≡ get_or challenges k 0
at_level challenges k = ap (λ i. get_or challenges i 0) (let same : k + 1 - 1 ≡ k = omega arith in same)

-- nothing is to come above the last level
pub last_factor : (p v k : ℕ) (weight : List ℕ → ℕ) (challenges : List ℕ) → v < p → length challenges ≤ k → weight [] ≡ 1
    → v ≡ (v * weight (drop k challenges)) % p
last_factor p v k weight challenges below all one =
    let rest : weight (drop k challenges) ≡ 1 = ap weight (drop_all k challenges all) ∙ one in
    sym (ap (λ w. (v * w) % p) rest ∙ ap (λ x. x % p) (let same : v * 1 ≡ v = omega arith in same) ∙ mod-eq_of_lt below)
