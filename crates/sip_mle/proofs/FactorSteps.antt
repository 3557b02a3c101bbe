-- One level more of a factor.
use Rattle.std.proofs.Common.{◌≡◌, ℕ, ◌+◌, ◌-◌, ◌*◌, ◌/◌, ◌%◌, ◌<◌, List, [], ◌∷◌, length, get_or, drop, arith}
use Rattle.std.proofs.Math.Nat.{mod-lt, mod-add-mod}
use Rattle.std.proofs.lemmas.Bool.{ne_eqb}
use Rattle.std.proofs.lemmas.List.{drop_more}
use Rattle.sip_field.specs.Residue.{difference_mod, product_mod}
use Rattle.sip_vector.specs.Extensions.{chi}
use Rattle.sip_vector.proofs.Products.{one_times, factor_taken, at_level}

-- a factor is a residue, and one times it is the factor
factor_below : (p i : ℕ) (challenges : List ℕ) → 1 < p → chi p i challenges < p
factor_below p i [] above = above
factor_below p i (r ∷ challenges) above = let some : 0 < p = omega arith in mod-lt _ some

pub factor_of_one : (p i : ℕ) (challenges : List ℕ) → 1 < p → (1 % p * chi p i challenges) % p ≡ chi p i challenges
factor_of_one p i challenges above = one_times p _ (factor_below p i challenges above)

-- at level k + 1, whose challenge a seat keeps under the number k
module _ (p : ℕ) (seat : List ℕ) (k path v : ℕ) (within : k < length seat) where
  -- a path that turns right takes the challenge into the product
  pub factor_right : path % 2 ≡ 1 →
      (product_mod p v (get_or seat (k + 1 - 1) 0) * chi p (path / 2) (drop (k + 1) seat)) % p ≡ (v * chi p path (drop k seat)) % p
  factor_right right = rw (at_level seat k, drop_more seat k 0 within, right) (factor_taken p v _ _)

  -- one that turns left takes one less the challenge
  pub factor_left : (path % 2 ≡ 1 → ⊥) →
      (product_mod p v (difference_mod p (1 % p) (get_or seat (k + 1 - 1) 0)) * chi p (path / 2) (drop (k + 1) seat)) % p ≡ (v * chi p path (drop k seat)) % p
  factor_left left =
      rw (at_level seat k, drop_more seat k 0 within, ne_eqb (path % 2) 1 left, mod-add-mod 1 p (p - get_or seat k 0)) (factor_taken p v _ _)
