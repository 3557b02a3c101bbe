-- What a call did that begins a panel: it drew the challenges of all seats, sent the stream to each
-- helper and made the session. (For the proof of `panel` alone.)
use Rattle.std.specs.Prelude.{◌≡◌, ℕ, ◌+◌, ◌-◌, ◌/◌, List, Option, Some, Result, Ok, Err}
use Rattle.sip_verifier.specs.declared.status.Status.{Status}
use Rattle.sip_verifier.specs.declared.status.Status.TheVariants as statuses
use Rattle.sip_verifier.specs.declared.task.Task.{Task}
use Rattle.sip_verifier.specs.Draws.{blocks, drawn}
use Rattle.sip_verifier.specs.Gathering.{IsPassedOn, Refuses}
use Rattle.sip_verifier.specs.Seats.{Seating}
use Rattle.sip_verifier.specs.Sittings.{Sitting, Starts}
use Rattle.sip_verifier.specs.Tasks.{version_of}
use Rattle.sip_verifier.specs.Widths.{first_wide_seat}
use Rattle.sip_session.specs.inside.Hearing.{AllTalks, Each, IsPassedInPart}
use Rattle.sip_session.specs.Panels.{seat_queries}

-- the task whose queries are those of the seats
abbrev pub task_of_seats : ℕ → Task → Task
task_of_seats helpers task =
    record task { queries = record { items = seat_queries helpers task.queries.items } }

-- the query of a seat, both counted from 1
abbrev pub query_of_seat : ℕ → ℕ → ℕ
query_of_seat helpers seat = (seat - 1) / helpers + 1

-- the same end, where it names a query in place of its seat
abbrev pub by_query : ℕ → Status → Status
by_query helpers (statuses.TooWide seat) = statuses.TooWide (query_of_seat helpers seat)
by_query helpers status = status

-- for a task whose queries are those of the seats
module _ (wide : Task) (bytes seed : List ℕ) (left : Option (List ℕ)) (old new : AllTalks) where
  -- the seed gives challenges, each helper heard the whole stream, and the seats stand for it
  pub record IsHeard (seats : Seating) : Type 0 where
    pub challenges : List ℕ
    pub draws : drawn wide seed ≡ Some challenges
    pub each : Each (λ _ o n. IsPassedOn wide bytes (blocks wide challenges) left (Some o)
        (Some n) seats)
        old new

  -- the seats stand for the stream; or why there are none, and what each helper heard
  abbrev pub GathersAll : Result Seating Status → Type 0
  GathersAll (Ok seats) = IsHeard seats
  GathersAll (Err statuses.OutOfMemory) = Each (λ _ o n. IsPassedInPart wide bytes o n) old new
  GathersAll (Err status) =
      Each (λ _ o n. Refuses wide bytes seed (Some o) (Some n) status) old new

  -- The session has all seats; or why there is none, and what each helper heard. A query whose
  -- answer may be too wide is named by its own number.
  abbrev pub Begins : ℕ → Result Sitting Status → Type 0
  Begins helpers (Ok session) = (seats : Seating) × IsHeard seats
      × Starts (version_of wide) seats (Ok session)
  Begins helpers (Err (statuses.TooWide query)) = (seats : Seating) × IsHeard seats × (seat : ℕ)
      × (first_wide_seat seats.seats ≡ Some seat) × (query ≡ query_of_seat helpers seat)
  Begins helpers (Err statuses.OutOfMemory) = Each (λ _ o n. IsPassedInPart wide bytes o n) old new
  Begins helpers (Err status) =
      Each (λ _ o n. Refuses wide bytes seed (Some o) (Some n) status) old new
