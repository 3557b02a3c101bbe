-- The running number that a seat shows, where it keeps only one, and what it is of a stream.
use Rattle.std.specs.Prelude.{◌≡◌, ℕ, Bool, true, false, List, map, Option, Some, None}
use Rattle.std.specs.List.{slice_get}
use Rattle.std.specs.Option.{option_and_then}
use Rattle.sip_field.specs.Moduli.{m61_modulus}
use Rattle.sip_mle.specs.StandsFor.{PointStandsFor}
use Rattle.sip_tree.specs.StandsFor.{RootStandsFor}
use Rattle.sip_vector.specs.declared.query.Query.{Query}
use Rattle.sip_vector.specs.declared.query.Query.TheVariants.{Sub, Range, F2}
use Rattle.sip_vector.specs.declared.update.Side.{Side}
use Rattle.sip_vector.specs.declared.update.Side.TheVariants.{First}
use Rattle.sip_vector.specs.declared.update.Update.{Update}
use Rattle.sip_vector.specs.Streams.{vector}
use Rattle.sip_verifier.specs.QuerySeats.{RunningNumbers, Seated}
use Rattle.sip_verifier.specs.Seats.{AreSeats, Seating}

-- ---- which seats keep one

-- the query is for a sub-vector, for which a root is kept
abbrev pub has_root : Query → Bool
has_root (Sub lo hi) = true
has_root _ = false

-- the side whose extension is kept, and nothing beside it: of a range sum and a second moment
abbrev pub point_side : Query → Option Side
point_side (Range side lo hi) = Some side
point_side (F2 side) = Some side
point_side _ = None

-- the same of the query at a place, where there is one
abbrev pub has_root_at : List Query → ℕ → Bool
has_root_at queries k = elim (slice_get queries k) [ Some query ↦ has_root query | None ↦ false ]

abbrev pub point_side_at : List Query → ℕ → Option Side
point_side_at queries k = option_and_then point_side (slice_get queries k)

-- the queries of seats, in order
abbrev pub queries_of : Seating → List Query
queries_of s = map (λ seat. seat.query) s.seats

-- ---- what is shown

-- the seat at a place has these challenges, and keeps this and nothing else
pub record KeepsOne (s : Seating) (k : ℕ) (block : List ℕ) (running : RunningNumbers) : Type 0 where
  pub seat : Seated
  pub at : slice_get s.seats k ≡ Some seat
  pub challenges : seat.block ≡ block
  pub keeps : seat.running ≡ running

-- The challenges are those of the place. The value is the root of side 0's vector, of whichever
-- stream the seats stand for.
abbrev pub IsRootAt : Seating → ℕ → List ℕ → ℕ → Type 0
IsRootAt s k block value =
    (depth : ℕ) (queries : List Query) (blocks : List (List ℕ)) (stream : List Update)
    → AreSeats depth queries blocks stream s
    → (slice_get blocks k ≡ Some block)
    × RootStandsFor m61_modulus block value (vector depth stream First)

-- likewise for an extension, of the vector of the side that the query at the place names
abbrev pub IsPointAt : Seating → ℕ → List ℕ → ℕ → Type 0
IsPointAt s k block value =
    (depth : ℕ) (queries : List Query) (blocks : List (List ℕ)) (stream : List Update)
    → AreSeats depth queries blocks stream s
    → (slice_get blocks k ≡ Some block)
    × ((side : Side) → point_side_at queries k ≡ Some side
    → PointStandsFor m61_modulus block value (vector depth stream side))
