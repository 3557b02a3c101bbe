-- Residues: whole numbers modulo p, each given by its remainder from 0 to p - 1.
use Rattle.std.specs.Prelude.{◌≡◌, ℕ, ℤ, pos, negsuc, ◌+◌, ◌-◌, ◌*◌, ◌%◌, ◌<◌, ◌≤◌, ◌+ℤ◌, ◌-ℤ◌}
use Rattle.std.specs.Prelude.{◌*ℤ◌}

-- the residue of a signed number; negsuc n is -(n + 1)
abbrev pub residue : ℕ → ℤ → ℕ
residue p (pos n) = n % p
residue p (negsuc n) = p - 1 - n % p

-- the residue of a + b
abbrev pub sum_mod : ℕ → ℕ → ℕ → ℕ
sum_mod p a b = (a + b) % p

-- the residue of a - b, for b at most p
abbrev pub difference_mod : ℕ → ℕ → ℕ → ℕ
difference_mod p a b = (a + (p - b)) % p

-- the residue of a * b
abbrev pub product_mod : ℕ → ℕ → ℕ → ℕ
product_mod p a b = (a * b) % p

-- the residue of a signed number is what is left of it, from 0 to p - 1, by taking away a multiple
-- of p
abbrev pub ResiduesAreRemainders : Type 0
ResiduesAreRemainders =
    (p : ℕ) (x : ℤ) → 0 < p → (residue p x < p) × ((k : ℤ) × (x ≡ pos (residue p x) +ℤ k *ℤ pos p))

-- the residue of a difference is that of the whole number
abbrev pub DifferencesAreResidues : Type 0
DifferencesAreResidues =
    (p a b : ℕ) → 0 < p → b ≤ p → difference_mod p a b ≡ residue p (pos a -ℤ pos b)
