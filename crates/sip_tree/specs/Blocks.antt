-- What many updates make of a root.
use Rattle.std.specs.Prelude.{ℕ, ◌+◌, ◌*◌, ◌%◌, ℤ, ◌+ℤ◌, nat_abs, List, fold}
use Rattle.sip_field.specs.Residue.{residue}
use Rattle.sip_vector.specs.Splits.{value_factor, weight_factor}
use Rattle.sip_vector.specs.Weights.{node_weight, hash_weight}
use Rattle.sip_vector.specs.declared.update.Update.{Update}

-- a root after these updates, one after another
abbrev pub root_after : ℕ → List ℕ → ℕ → List Update → ℕ
root_after p challenges value updates =
    fold (λ v u. (v + residue p u.delta * node_weight p u.item challenges) % p) value updates

-- the hash of an augmented root, and its sum
abbrev pub hash_after : ℕ → List ℕ → ℕ → List Update → ℕ
hash_after p challenges hash updates =
    fold (λ h u. (h + residue p u.delta * hash_weight p u.item challenges) % p) hash updates

abbrev pub total_after : ℤ → List Update → ℤ
total_after total updates = fold (λ t u. t +ℤ u.delta) total updates

-- what an update adds to the hash of a split root: its delta by the factor of a value, and its size
-- by that of a weight
abbrev pub split_term : ℕ → List ℕ → ℕ → ℤ → ℕ
split_term p challenges item delta =
    residue p delta * value_factor p item challenges
    + nat_abs delta * weight_factor p item challenges

-- the hash of a split root, and its weight
abbrev pub split_after : ℕ → List ℕ → ℕ → List Update → ℕ
split_after p challenges hash updates =
    fold (λ h u. (h + split_term p challenges u.item u.delta) % p) hash updates

abbrev pub weight_after : ℕ → List Update → ℕ
weight_after weight updates = fold (λ w u. w + nat_abs u.delta) weight updates
