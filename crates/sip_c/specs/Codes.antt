-- Updates as numbers.
use Rattle.std.specs.Prelude.{ℕ, ◌==◌, ◌≤◌, if◌then◌else◌}
use Rattle.sip_vector.specs.declared.update.Side.{Side}
use Rattle.sip_vector.specs.declared.update.Side.TheVariants.{First, Second}
use Rattle.sip_vector.specs.declared.update.Update.{Update}
use Rattle.sip_c.specs.declared.codes.UpdateCode.{UpdateCode}

-- the side is one
abbrev pub HasSide : UpdateCode → Type 0
HasSide c = c.side ≤ 1

-- the side of a number
abbrev pub side_of : ℕ → Side
side_of number = if number == 0 then First else Second

-- the update that they say
abbrev pub update_of : UpdateCode → Update
update_of c = record { side = side_of c.side; item = c.item; delta = c.delta }
