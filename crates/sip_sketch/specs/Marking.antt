-- A sketch with seats that questions have used.
use Rattle.std.specs.Prelude.{ℕ, zero, suc, Bool, true, false, List, [], ◌∷◌}
use Rattle.sip_sketch.specs.Sketches.{SeatValues, SketchValues}

-- the seat, used
abbrev pub used : SeatValues → SeatValues
used seat = record {
  kind = seat.kind;
  is_used = true;
  block = seat.block;
  first = seat.first;
  second = seat.second;
}

-- these seats, of which the one at this place is used
abbrev pub used_at : ℕ → List SeatValues → List SeatValues
used_at place [] = []
used_at zero (seat ∷ seats) = used seat ∷ seats
used_at (suc place) (seat ∷ seats) = seat ∷ used_at place seats

-- the sketch whose seat at this place is used
abbrev pub mark : ℕ → SketchValues → SketchValues
mark place s = record {
  depth = s.depth;
  parts = s.parts;
  tally = s.tally;
  seats = used_at place s.seats;
}

-- whether a question has used the seat at this place
abbrev pub is_used_at : ℕ → List SeatValues → Bool
is_used_at place [] = false
is_used_at zero (seat ∷ seats) = seat.is_used
is_used_at (suc place) (seat ∷ seats) = is_used_at place seats
