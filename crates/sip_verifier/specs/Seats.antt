-- What is seen of the seats of a run, and which streams they stand for.
use Rattle.std.specs.Prelude.{◌≡◌, ℕ, ◌*◌, List, [], length, map, All, Some, None, Result, Ok, Err}
use Rattle.sip_vector.specs.declared.query.Query.{Query}
use Rattle.sip_vector.specs.declared.update.Update.{Update}
use Rattle.sip_vector.specs.Pieces.{cut}
use Rattle.sip_verifier.specs.Draws.{challenges_of}
use Rattle.sip_verifier.specs.QuerySeats.{Seated, StandsFor}

-- what is seen of the seats of a run: the depth, and a seat for each query in order
pub record Seating : Type 0 where
  pub depth : ℕ
  pub seats : List Seated

-- the seats have these queries in order, each with its block of challenges, and stand for this
-- stream
pub record AreSeats (depth : ℕ) (queries : List Query) (blocks : List (List ℕ))
    (stream : List Update) (s : Seating) : Type 0 where
  pub levels : s.depth ≡ depth
  pub asked : map (λ seat. seat.query) s.seats ≡ queries
  pub at_blocks : map (λ seat. seat.block) s.seats ≡ blocks
  pub stand : All (StandsFor depth stream) s.seats

-- the seats of the challenges that a seed gives, or that it is spent
abbrev pub AreDrawn : {E : Type 0} → ℕ → List Query → List ℕ → Result Seating E → Type 0
AreDrawn depth queries seed (Ok seats) =
    (challenges : List ℕ) × (challenges_of (depth * length queries) seed ≡ Some challenges)
    × AreSeats depth queries (cut depth challenges) [] seats
AreDrawn depth queries seed (Err _) = challenges_of (depth * length queries) seed ≡ None
