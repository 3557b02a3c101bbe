-- What the seats take of one more record, and what a call that keeps them answers. (For the proofs
-- of `gather` and its parts, and of what sends a stream to several helpers, alone.)
use Rattle.std.specs.Prelude.{◌≡◌, ◌≢◌, ◌<◌, ◌^◌, ℕ, pos, List, [], ◌∷◌, ◌++◌, length, All, OnOk}
use Rattle.std.specs.Prelude.{Result, Ok, Err, if◌then◌else◌}
use Rattle.sip_vector.specs.declared.query.Query.{Query}
use Rattle.sip_vector.specs.declared.update.Side.{Side}
use Rattle.sip_vector.specs.declared.update.Update.{Update}
use Rattle.sip_wire.specs.Table.{most_rows}
use Rattle.sip_wire.specs.Versions.{index_width}
use Rattle.sip_verifier.specs.declared.status.Status.{Status}
use Rattle.sip_verifier.specs.Feeding.{Waiting, fills, waiting_with}
use Rattle.sip_verifier.specs.QuerySeats.{HaveRoom}
use Rattle.sip_verifier.specs.Seats.{AreSeats, Seating}

-- those that the seats take then
abbrev pub taken_with : List Update → Update → List Update
taken_with waiting u = if fills waiting then waiting ++ u ∷ [] else []

-- one more record can come behind those that wait: a frame has room for it and for its item, and
-- the seats have room for all of them
pub record CanBeTaken (u : Update) (feed : Waiting) (seats : Seating) : Type 0 where
  pub few : length feed.waiting < most_rows
  pub fits : u.item < 256 ^ index_width feed.version
  pub delta : u.delta ≢ pos 0
  pub item : u.item < 2 ^ seats.depth
  pub items : All (λ v. v.item < 2 ^ seats.depth) feed.waiting
  pub room : (side : Side) → HaveRoom seats.seats (feed.waiting ++ u ∷ []) side

-- One more record waits for its frame; or the frame was full with it, the seats took the frame's
-- updates, and nothing waits, where the frame was sent.
pub record TakesNext {E : Type 0} (u : Update) (feed feed_now : Waiting)
    (seats seats_now : Seating) (result : Result Unit E) : Type 0 where
  pub version : feed_now.version ≡ feed.version
  pub waiting : OnOk result (feed_now.waiting ≡ waiting_with feed.waiting u)
  pub few : OnOk result (length feed_now.waiting < most_rows)
  pub items : OnOk result (All (λ v. v.item < 2 ^ seats.depth) feed_now.waiting)
  pub depth : seats_now.depth ≡ seats.depth
  pub stands : (depth : ℕ) (queries : List Query) (at_blocks : List (List ℕ))
      (stream : List Update) → AreSeats depth queries at_blocks stream seats
      → AreSeats depth queries at_blocks (stream ++ taken_with feed.waiting u) seats_now

-- what a call answers that gathers at a place: what it left there, or why it stopped since
abbrev pub left : {T : Type 0} → Result Seating Status → Result T Status → Result Seating Status
left gathered (Ok _) = gathered
left gathered (Err status) = Err status
