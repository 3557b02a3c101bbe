-- What a sketch and the next part of its stream add up to, and which parts are not added.
use Rattle.std.specs.Prelude.{ℕ, ◌+◌, ◌-◌, ◌%◌, ◌==◌, nat_lt, Bool, not, ◌&&◌, List, [], ◌∷◌}
use Rattle.std.specs.Prelude.{bytes_eq, Option, Some, None, if◌then◌else◌}
use Rattle.std.specs.Cmp.Lexicographic.{pointwise}
use Rattle.std.specs.List.{list_any}
use Rattle.sip_field.specs.Moduli.{m61_modulus}
use Rattle.sip_vector.specs.declared.update.Side.TheVariants.{First, Second}
use Rattle.sip_vector.specs.Streams.{most_weight}
use Rattle.sip_vector.specs.Tallies.{joined}
use Rattle.sip_sketch.specs.Sketches.{SeatValues, SketchValues, code_of}
use Rattle.sip_sketch.specs.declared.kind.SeatKind.{SeatKind}
use Rattle.sip_sketch.specs.declared.kind.SeatKind.TheVariants.{Above, Entries, Heavy, Products, Sums}
use Rattle.sip_sketch.specs.declared.parts.Parts.{Parts}
use Rattle.sip_sketch.specs.declared.unlike.Unlike.{Unlike}
use Rattle.sip_sketch.specs.declared.unlike.Unlike.TheVariants as reasons

-- ---- which parts are not added

-- two seats serve the same, at the same challenges
abbrev pub same_seat : SeatValues → SeatValues → Bool
same_seat s more = (code_of s.kind == code_of more.kind) && bytes_eq s.block more.block

-- the depth, the number of parts, and the kinds and the challenges of the seats are the same
abbrev pub same_shape : SketchValues → SketchValues → Bool
same_shape s part = (s.depth == part.depth) && ((s.parts.count == part.parts.count)
    && pointwise same_seat s.seats part.seats)

-- all parts are in
abbrev pub is_whole : Parts → Bool
is_whole p = (p.first == 1) && (p.last == p.count)

-- a question has used one of them
abbrev pub any_used : List SeatValues → Bool
any_used seats = list_any (λ seat. seat.is_used) seats

-- Why a part is not added to a sketch that has those before it: the first of these reasons that
-- there is, or none.
abbrev pub unlike : SketchValues → SketchValues → Option Unlike
unlike s part =
    if not (same_shape s part) then Some reasons.Shape
    else if is_whole part.parts then Some reasons.Whole
    else if any_used part.seats then Some reasons.UsedSeat
    else if not (part.parts.first == s.parts.last + 1) then Some reasons.NotNext
    else if nat_lt most_weight (s.tally.first + part.tally.first) then Some (reasons.Heavy First)
    else if nat_lt most_weight (s.tally.second + part.tally.second) then Some (reasons.Heavy Second)
    else None

-- ---- what they add up to

-- the second numbers of two seats of this kind: extensions add up modulo the order of the field,
-- and totals as they are, each of which stands with the greatest weight
abbrev pub added_second : SeatKind → ℕ → ℕ → ℕ
added_second Entries one other = 0
added_second (Sums side) one other = 0
added_second Products one other = (one + other) % m61_modulus
added_second (Heavy side) one other = one + other - most_weight
added_second (Above side) one other = 0

-- a seat with the numbers of both; a used one stays as it is
abbrev pub added_seat : SeatValues → SeatValues → SeatValues
added_seat s more = record {
  kind = s.kind;
  is_used = s.is_used;
  block = s.block;
  first = if s.is_used then s.first else (s.first + more.first) % m61_modulus;
  second = if s.is_used then s.second else added_second s.kind s.second more.second;
}

-- each seat with the one at its place
abbrev pub added_seats : List SeatValues → List SeatValues → List SeatValues
added_seats [] others = []
added_seats (s ∷ seats) [] = []
added_seats (s ∷ seats) (more ∷ others) = added_seat s more ∷ added_seats seats others

-- the sketch with the part, from the first part of the one to the last of the other
abbrev pub added : SketchValues → SketchValues → SketchValues
added s part = record {
  depth = s.depth;
  parts = record { count = s.parts.count; first = s.parts.first; last = part.parts.last };
  tally = joined s.tally part.tally;
  seats = added_seats s.seats part.seats;
}
