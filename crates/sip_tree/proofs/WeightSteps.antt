-- One level more of a weight.
use Rattle.std.proofs.Common.{◌≡◌, ℕ, ◌+◌, ◌-◌, ◌*◌, ◌/◌, ◌%◌, ◌^◌, ◌<◌, ◌==◌, Bool, true, false, if◌then◌else◌, List, [], ◌∷◌, length, get_or, drop, sym, ◌∙◌, ap, arith}
use Rattle.std.proofs.Math.Nat.{mod-lt, pow-zero, pow-succ'}
use Rattle.std.proofs.lemmas.Bool.{eq-eqb, ne_eqb}
use Rattle.std.proofs.lemmas.List.{drop_more}
use Rattle.std.proofs.lemmas.Nat.{mul-mod_first, mul-mod_second}
use Rattle.sip_field.specs.Residue.{sum_mod, product_mod}
use Rattle.sip_vector.specs.Weights.{node_weight, hash_weight_from}
use Rattle.sip_vector.proofs.Products.{one_times, factor_taken, at_level}

-- a weight is a residue, and one times it is the weight
weight_below : (p i : ℕ) (challenges : List ℕ) → 1 < p → node_weight p i challenges < p
weight_below p i [] above = above
weight_below p i (r ∷ challenges) above = let some : 0 < p = omega arith in mod-lt _ some

pub weight_of_one : (p i : ℕ) (challenges : List ℕ) → 1 < p → (1 % p * node_weight p i challenges) % p ≡ node_weight p i challenges
weight_of_one p i challenges above = one_times p _ (weight_below p i challenges above)

-- the factor of a right node, with two products
pub by_powers : (h r : ℕ) → (h + r) * (r * r) ≡ h * r ^ 2 + r ^ 3
by_powers h r = rw (pow-succ' r 2, pow-succ' r 1, pow-succ' r 0, pow-zero r) (omega arith)

-- at level k + 1, whose challenge a seat keeps under the number k
module _ (p : ℕ) (seat : List ℕ) (k path : ℕ) (within : k < length seat) where
  -- a path that turns right takes the challenge into the product
  pub weight_right : (v : ℕ) → path % 2 ≡ 1 →
      (product_mod p v (get_or seat (k + 1 - 1) 0) * node_weight p (path / 2) (drop (k + 1) seat)) % p ≡ (v * node_weight p path (drop k seat)) % p
  weight_right v right = rw (at_level seat k, drop_more seat k 0 within, right) (factor_taken p v _ _)

  -- one that turns left leaves it
  pub weight_left : (v : ℕ) → (path % 2 ≡ 1 → ⊥) →
      (v * node_weight p (path / 2) (drop (k + 1) seat)) % p ≡ (v * node_weight p path (drop k seat)) % p
  weight_left v left =
      let n : ℕ = node_weight p (path / 2) (drop (k + 1) seat) in
      rw (drop_more seat k 0 within, ne_eqb (path % 2) 1 left)
      (ap (λ x. (v * x) % p) (let same : n ≡ 1 * n = omega arith in same) ∙ sym (mul-mod_second v (1 * n) p))

  -- likewise the weight in a hash
  climb : (h : ℕ) (right : Bool) → (path % 2 == 1) ≡ right →
      hash_weight_from p ((if right then h * get_or seat k 0 ^ 2 + get_or seat k 0 ^ 3 else h + get_or seat k 0) % p) (path / 2) (drop (k + 1) seat)
      ≡ hash_weight_from p h path (drop k seat)
  climb h right turn =
      let r : ℕ = get_or seat k 0 in
      ap (λ b. hash_weight_from p ((if b then h * r ^ 2 + r ^ 3 else h + r) % p) (path / 2) (drop (k + 1) seat)) (sym turn)
      ∙ ap (hash_weight_from p h path) (sym (drop_more seat k 0 within))

  pub hash_right : (h : ℕ) → path % 2 ≡ 1 →
      hash_weight_from p (product_mod p (sum_mod p h (get_or seat (k + 1 - 1) 0)) (product_mod p (get_or seat (k + 1 - 1) 0) (get_or seat (k + 1 - 1) 0))) (path / 2) (drop (k + 1) seat)
      ≡ hash_weight_from p h path (drop k seat)
  hash_right h right =
      let r : ℕ = get_or seat k 0 in
      let step : ((h + r) % p * ((r * r) % p)) % p ≡ (h * r ^ 2 + r ^ 3) % p =
      mul-mod_first (h + r) ((r * r) % p) p ∙ mul-mod_second (h + r) (r * r) p ∙ ap (λ x. x % p) (by_powers h r) in
      rw (at_level seat k) (ap (λ v. hash_weight_from p v (path / 2) (drop (k + 1) seat)) step ∙ climb h true (eq-eqb (path % 2) 1 right))

  pub hash_left : (h : ℕ) → (path % 2 ≡ 1 → ⊥) →
      hash_weight_from p (sum_mod p h (get_or seat (k + 1 - 1) 0)) (path / 2) (drop (k + 1) seat) ≡ hash_weight_from p h path (drop k seat)
  hash_left h left = rw (at_level seat k) (climb h false (ne_eqb (path % 2) 1 left))
