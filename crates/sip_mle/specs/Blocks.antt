-- What many updates make of an extension.
use Rattle.std.specs.Prelude.{ℕ, ◌+◌, ◌*◌, ◌%◌, List, fold}
use Rattle.sip_field.specs.Residue.{residue}
use Rattle.sip_vector.specs.Extensions.{chi}
use Rattle.sip_vector.specs.declared.update.Update.{Update}

-- an extension after these updates, one after another
abbrev pub point_after : ℕ → List ℕ → ℕ → List Update → ℕ
point_after p challenges value updates =
    fold (λ v u. (v + residue p u.delta * chi p u.item challenges) % p) value updates
