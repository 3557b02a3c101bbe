-- The seats of a sketch that begins, one after another.
use Rattle.std.specs.Prelude.{◌≡◌, ℕ, ◌*◌, ◌<◌, false, List, [], length, map, flat_map, All, Some}
use Rattle.rand_core.specs.Stream.{Stream}
use Rattle.sip_field.specs.Draw.{draw_list}
use Rattle.sip_field.specs.Moduli.{m61_modulus}
use Rattle.sip_vector.specs.Tallies.{tally}
use Rattle.sip_sketch.specs.Sketches.{SeatValues}
use Rattle.sip_sketch.specs.Standing.{SeatStands}
use Rattle.sip_sketch.specs.declared.kind.SeatKind.{SeatKind}
use Rattle.sip_sketch.specs.inside.Raising.{HasSecond}

-- an unused seat of no update
pub record BeginsAt (depth : ℕ) (s : SeatValues) : Type 0 where
  pub unused : s.is_used ≡ false
  pub levels : length s.block ≡ depth
  pub block : All (λ r. r < m61_modulus) s.block
  pub first : s.first < m61_modulus
  pub second : HasSecond (tally []) s
  pub stands : SeatStands depth [] s

-- those of these kinds in order, each with the next challenges that the words give
pub record AreBegun (levels : ℕ) (asked : List SeatKind) (words : Stream)
    (seats : List SeatValues) : Type 0 where
  pub kinds : map (λ s. s.kind) seats ≡ asked
  pub drawn : draw_list (levels * length asked) words ≡ Some (flat_map (λ s. s.block) seats)
  pub each : All (BeginsAt levels) seats
