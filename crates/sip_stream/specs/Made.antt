-- A stream that is made from a number: a linear congruential generator modulo 2^64, and the
-- records that its states say.
use Rattle.std.specs.Prelude.{ℕ, zero, suc, ◌+◌, ◌*◌, ◌/◌, ◌%◌, ◌^◌, ◌==◌, ℤ, pos, List, [], ◌∷◌}
use Rattle.std.specs.Prelude.{if◌then◌else◌}
use Rattle.sip_vector.specs.declared.update.Side.{Side}
use Rattle.sip_vector.specs.declared.update.Side.TheVariants.{First, Second}
use Rattle.sip_vector.specs.declared.update.Update.{Update}
use Rattle.sip_stream.specs.Layouts.{made_form}
use Rattle.sip_stream.specs.Spellings.{all_spelled}

-- the most records of a made stream
abbrev pub most_made : ℕ
most_made = 10000000

-- the state after x
unfoldable pub next_state : ℕ → ℕ
next_state x = (x * 6364136223846793005 + 1442695040888963407) % 2 ^ 64

-- the side is the highest bit
unfoldable pub made_side : ℕ → Side
made_side x = if x / 2 ^ 63 == 0 then First else Second

-- The item is the bits from 15 on, as many as there are levels; but where bits 8 and 9 are 0 it is
-- bit 15 alone, so items 0 and 1 are heavy.
unfoldable pub made_item : ℕ → ℕ → ℕ
made_item depth x = if x / 2 ^ 8 % 4 == 0 then x / 2 ^ 15 % 2 else x / 2 ^ 15 % 2 ^ depth

-- the delta is 1 more than bits 12 to 14
unfoldable pub made_delta : ℕ → ℤ
made_delta x = pos (1 + x / 2 ^ 12 % 8)

-- the update that the state x says
abbrev pub made_update : ℕ → ℕ → Update
made_update depth x = record { side = made_side x; item = made_item depth x; delta = made_delta x }

-- the updates of the next states after x, so many
abbrev pub made : ℕ → ℕ → ℕ → List Update
made x zero depth = []
made x (suc count) depth = made_update depth (next_state x) ∷ made (next_state x) count depth

-- their records, in the form of the depth
abbrev pub made_bytes : ℕ → ℕ → ℕ → List ℕ
made_bytes x count depth = all_spelled (made_form depth) (made x count depth)
