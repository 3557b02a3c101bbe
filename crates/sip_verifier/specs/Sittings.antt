-- What is seen of a session.
use Rattle.std.specs.Prelude.{◌≡◌, ℕ, Bool, false, List, [], map, Some, None, Result, Ok, Err}
use Rattle.sip_vector.specs.declared.query.Query.{Query}
use Rattle.sip_vector.specs.declared.update.Entry.{Entry}
use Rattle.sip_wire.specs.declared.version.Version.{Version}
use Rattle.sip_verifier.specs.declared.session.SessionStart.{SessionStart}
use Rattle.sip_verifier.specs.declared.session.SessionStart.TheVariants as starts
use Rattle.sip_verifier.specs.QuerySeats.{Seated}
use Rattle.sip_verifier.specs.runs.Askers.{Remaining}
use Rattle.sip_verifier.specs.Seats.{Seating}
use Rattle.sip_verifier.specs.Widths.{first_wide_seat}

-- The version of the talk, the depth, the seats whose queries were neither asked nor passed over
-- yet, the entries of the last answer of pairs, and whether a call failed: then nothing more is
-- asked. Replies that were rejected leave the next query to be asked.
pub record Sitting : Type 0 where
  pub version : Version
  pub depth : ℕ
  pub left : List Seated
  pub entries : List Entry
  pub spent : Bool

-- the queries of these seats, with their blocks
abbrev pub asks_left : List Seated → List (Query × List ℕ)
asks_left seats = map (λ seat. (seat.query, seat.block)) seats

-- what is still to be asked in it
abbrev pub remaining_of : Sitting → Remaining Query
remaining_of s = record {
  version = s.version;
  depth = s.depth;
  left = asks_left s.left;
  spent = s.spent;
}

-- A session has all seats to ask and shows no entries yet; or this query is the first whose answer
-- may be too wide; or there is no memory for it.
abbrev pub Starts : Version → Seating → Result Sitting SessionStart → Type 0
Starts version seats (Ok s) =
    (s.version ≡ version) × (s.depth ≡ seats.depth) × (s.left ≡ seats.seats) × (s.entries ≡ [])
    × (s.spent ≡ false) × (first_wide_seat seats.seats ≡ None)
Starts version seats (Err (starts.TooWide query)) = first_wide_seat seats.seats ≡ Some query
Starts version seats (Err starts.OutOfMemory) = Unit {0}
