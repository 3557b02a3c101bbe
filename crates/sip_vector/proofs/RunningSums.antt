-- Sums of what many updates add to a running number.
use Rattle.std.proofs.Common.{◌≡◌, ℕ, ◌+◌, ◌-◌, ◌*◌, ◌%◌, ◌^◌, ◌<◌, ◌≤◌, List, [], ◌∷◌, length, get_or, take, fold, refl, sym, ◌∙◌, ap, arith}
use Rattle.std.proofs.Math.Nat.{mod-mod, mod-eq_of_lt}
use Rattle.std.proofs.lemmas.List.Sums.{fold_more}
use Rattle.sip_field.specs.Residue.{residue}
use Rattle.sip_field.specs.Products.{bits_product}
use Rattle.sip_vector.specs.declared.update.Update.{Update}
use Rattle.sip_vector.proofs.TreeResidues.{mod_plus}

-- a sum that keeps the residue of a number: how it begins, and how it grows by numbers of 64 bits
pub sum_begins : (p sum x : ℕ) → sum ≡ x → x < p → p ≤ 2 ^ 61 - 1 → (sum < (0 + 1) * 2 ^ 64) × (sum % p ≡ x)
sum_begins p sum x is small most = (omega (arith, is, small, most), ap (λ y. y % p) is ∙ mod-eq_of_lt small)

pub sum_grows : (n k sum x : ℕ) → k < n → n < 2 ^ 64 → sum < (k + 1) * 2 ^ 64 → x < 2 ^ 64 → (sum + x < 2 ^ 128) × (sum + x < (k + 1 + 1) * 2 ^ 64)
sum_grows n k sum x here short most more = (omega (arith, here, short, most, more), omega (arith, most, more))

-- a number to which each update adds its term
module _ (p : ℕ) (term : Update → ℕ) where
  abbrev pub after : ℕ → List Update → ℕ
  after value updates = fold (λ v u. (v + term u) % p) value updates

  -- one update more
  pub one_more : (value : ℕ) (updates : List Update) (k : ℕ) (d : Update) (old new : ℕ) → k < length updates →
      old ≡ after value (take k updates) → new ≡ (old + term (get_or updates k d)) % p → new ≡ after value (take (k + 1) updates)
  one_more value updates k d old new within before is =
      let add : ℕ → Update → ℕ = λ v u. (v + term u) % p in
      is ∙ ap (λ v. add v (get_or updates k d)) before ∙ sym (fold_more add value updates k d within)

  -- and one more of a sum that keeps the number's residue
  pub sum_more : (value : ℕ) (updates : List Update) (k : ℕ) (d : Update) (sum x : ℕ) → k < length updates →
      sum % p ≡ after value (take k updates) → x % p ≡ term (get_or updates k d) % p → (sum + x) % p ≡ after value (take (k + 1) updates)
  sum_more value updates k d sum x within before is =
      one_more value updates k d (sum % p) ((sum + x) % p) within before (mod_plus p sum (sum % p) x (term (get_or updates k d)) (sym (mod-mod sum p)) is)

-- terms that are the same come to the same number
module _ (p : ℕ) (one other : Update → ℕ) (same : (u : Update) → one u ≡ other u) where
  pub after_same : (value : ℕ) (updates : List Update) → after p one value updates ≡ after p other value updates
  after_same value [] = refl
  after_same value (u ∷ updates) = ap (λ x. after p one ((value + x) % p) updates) (same u) ∙ after_same ((value + other u) % p) updates

-- what an update adds to a number in which an entry counts by a product over its index
abbrev pub product_term : ℕ → (ℕ → ℕ) → List ℕ → Update → ℕ
product_term p zero challenges u = residue p u.delta * bits_product p zero u.item challenges
