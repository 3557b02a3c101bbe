-- An update as numbers that may come next.
use Rattle.std.specs.Prelude.{◌≢◌, ◌+◌, ◌^◌, ◌<◌, ◌≤◌, pos, [], ◌∷◌}
use Rattle.sip_vector.specs.Streams.{most_weight, weight}
use Rattle.sip_vector.specs.declared.update.Side.TheVariants.{First, Second}
use Rattle.sip_c.specs.Codes.{HasSide, update_of}
use Rattle.sip_c.specs.Weighing.{Place}
use Rattle.sip_c.specs.declared.codes.UpdateCode.{UpdateCode}

-- it may come next there
pub record IsNext (p : Place) (c : UpdateCode) : Type 0 where
  pub side : HasSide c
  pub item : c.item < 2 ^ p.depth
  pub delta : c.delta ≢ pos 0
  pub first : p.first + weight (update_of c ∷ []) First ≤ most_weight
  pub second : p.second + weight (update_of c ∷ []) Second ≤ most_weight
