-- What many updates make of a number in which an entry counts by a product over its index.
use Rattle.std.specs.Prelude.{ℕ, ◌+◌, ◌*◌, ◌%◌, List, fold}
use Rattle.sip_field.specs.Residue.{residue}
use Rattle.sip_field.specs.Products.{bits_product}
use Rattle.sip_vector.specs.declared.update.Update.{Update}

-- the number after these updates, one after another: each adds its delta times the product of its
-- item
abbrev pub number_after : ℕ → (ℕ → ℕ) → List ℕ → ℕ → List Update → ℕ
number_after p zero challenges value updates =
    fold (λ v u. (v + residue p u.delta * bits_product p zero u.item challenges) % p) value updates
