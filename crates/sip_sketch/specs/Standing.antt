-- Which streams a sketch stands for.
use Rattle.std.specs.Prelude.{◌≡◌, ◌≢◌, ℕ, ◌+◌, ◌*◌, ◌^◌, ◌<◌, ◌≤◌, false, pos, List, []}
use Rattle.std.specs.Prelude.{length, map, All, Some}
use Rattle.std.specs.List.{AllZip}
use Rattle.sip_vector.specs.declared.update.Side.TheVariants.{First, Second}
use Rattle.sip_vector.specs.declared.update.Update.{Update}
use Rattle.sip_vector.specs.Pieces.{cut}
use Rattle.sip_vector.specs.Streams.{IsLegal, most_weight, weight}
use Rattle.sip_vector.specs.Tallies.{tally}
use Rattle.sip_verifier.specs.Draws.{challenges_of}
use Rattle.sip_verifier.specs.QuerySeats.{RunsOn}
use Rattle.sip_sketch.specs.Seats.{beside, numbers_kept, query_of, side_of}
use Rattle.sip_sketch.specs.Sketches.{SeatValues, SketchValues}
use Rattle.sip_sketch.specs.declared.kind.SeatKind.{SeatKind}
use Rattle.sip_sketch.specs.declared.parts.Parts.{Parts}

-- the numbers of a seat, with the weight of its side, are those of the stream's vectors at its block
abbrev pub SeatStands : ℕ → List Update → SeatValues → Type 0
SeatStands depth stream seat =
    RunsOn depth stream (query_of seat.kind) seat.block
    (beside (weight stream (side_of seat.kind)) (numbers_kept seat.kind seat.first seat.second))

-- The stream is legal, what is told of it is told in the sketch, and the numbers of each unused
-- seat are its. Of a used seat's numbers nothing is said: no record is added to it any more.
pub record Stands (stream : List Update) (s : SketchValues) : Type 0 where
  pub legal : IsLegal s.depth stream
  pub told : s.tally ≡ tally stream
  pub seats : All (λ seat. seat.is_used ≡ false → SeatStands s.depth stream seat) s.seats

-- The seats of a sketch that begins: of these kinds in order, none of them used, each with its
-- block of the challenges that the seed gives.
pub record IsBegun (seed : List ℕ) (depth : ℕ) (part : Parts) (asked : List SeatKind)
    (s : SketchValues) : Type 0 where
  pub levels : s.depth ≡ depth
  pub parts : s.parts ≡ part
  pub kinds : map (λ seat. seat.kind) s.seats ≡ asked
  pub unused : All (λ seat. seat.is_used ≡ false) s.seats
  pub challenges : List ℕ
  pub drawn : challenges_of (depth * length asked) seed ≡ Some challenges
  pub blocks : map (λ seat. seat.block) s.seats ≡ cut depth challenges
  pub stands : Stands [] s

-- the depth, the parts and the seats are the same, each with its kind, its use and its challenges
pub record IsKept (old new : SketchValues) : Type 0 where
  pub depth : new.depth ≡ old.depth
  pub parts : new.parts ≡ old.parts
  pub seats : AllZip (λ was now. (now.kind ≡ was.kind) × (now.is_used ≡ was.is_used)
      × (now.block ≡ was.block)) old.seats new.seats

-- These updates may come next, by what is told of the stream: each is one of a legal stream, and
-- the weights stay within the greatest one.
pub record MayCome (s : SketchValues) (updates : List Update) : Type 0 where
  pub items : All (λ u. u.item < 2 ^ s.depth) updates
  pub deltas : All (λ u. u.delta ≢ pos 0) updates
  pub first : s.tally.first + weight updates First ≤ most_weight
  pub second : s.tally.second + weight updates Second ≤ most_weight
