-- What a stream came to so far, by which its next update is legal or not.
use Rattle.std.specs.Prelude.{◌≡◌, ◌≢◌, ℕ, ◌+◌, ◌^◌, ◌<◌, ◌≤◌, nat_abs, pos, List, length}
use Rattle.sip_vector.specs.declared.update.Side.{Side}
use Rattle.sip_vector.specs.declared.update.Side.TheVariants.{First, Second}
use Rattle.sip_vector.specs.declared.update.Update.{Update}
use Rattle.sip_vector.specs.Streams.{IsLegal, most_weight, weight}

-- how many updates came, and the weight of each side
pub record Measuring : Type 0 where
  pub depth : ℕ
  pub count : ℕ
  pub first : ℕ
  pub second : ℕ

abbrev pub weight_of : Measuring → Side → ℕ
weight_of m First = m.first
weight_of m Second = m.second

-- of no update
abbrev pub nothing : ℕ → Measuring
nothing depth = record { depth = depth; count = 0; first = 0; second = 0 }

-- this stream came, and it is legal
pub record IsMeasured (stream : List Update) (m : Measuring) : Type 0 where
  pub count : m.count ≡ length stream
  pub weights : (side : Side) → weight_of m side ≡ weight stream side
  pub legal : IsLegal m.depth stream

-- the update is one that may come next
pub record HasRoom (m : Measuring) (u : Update) : Type 0 where
  pub item : u.item < 2 ^ m.depth
  pub delta : u.delta ≢ pos 0
  pub weight : weight_of m u.side + nat_abs u.delta ≤ most_weight
