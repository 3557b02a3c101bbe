-- How many levels are left above a level, by how many nodes it has.
use Rattle.std.proofs.Common.{◌≡◌, ℕ, zero, suc, ◌^◌, ◌≤◌, arith}
use Rattle.std.proofs.Math.Nat.{pow-succ'}
use Rattle.std.proofs.lemmas.Nat.{pow_pos}

-- a level of two nodes or more has a level above it
pub has_level : (left n : ℕ) → n ≡ 2 ^ left → 2 ≤ n → 1 ≤ left
has_level zero n is two = absurd (omega (arith, is))
has_level (suc left) n is two = omega arith

-- and one below another has two nodes or more
pub has_pair : (left n : ℕ) → n ≡ 2 ^ left → 1 ≤ left → 2 ≤ n
has_pair zero n is some = absurd (omega arith)
has_pair (suc left) n is some = omega (arith, is, pow-succ' 2 left, pow_pos left)
