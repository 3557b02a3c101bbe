-- What stands where a session was to be opened over the seats that were gathered.
use Rattle.std.specs.Prelude.{◌≡◌, ◌⊎◌, Result, Ok, Err}
use Rattle.sip_wire.specs.declared.version.Version.{Version}
use Rattle.sip_verifier.specs.declared.session.SessionStart.{SessionStart}
use Rattle.sip_verifier.specs.declared.status.Status.{Status}
use Rattle.sip_verifier.specs.Seats.{Seating}
use Rattle.sip_verifier.specs.Sittings.{Sitting, Starts}
use Rattle.sip_verifier.specs.inside.Ending.{status_of_start}

-- a session over them
abbrev pub IsOpened : Version → Result Seating Status → Sitting → Type 0
IsOpened version gathered session =
    (seats : Seating) × (gathered ≡ Ok seats) × Starts version seats (Ok session)

-- why there is none: no seats were gathered, or they had no session
abbrev pub IsUnopened : Version → Result Seating Status → Status → Type 0
IsUnopened version gathered status =
    (gathered ≡ Err status) ⊎ (seats : Seating) × (start : SessionStart)
    × (gathered ≡ Ok seats) × Starts version seats (Err start)
    × (status ≡ status_of_start start)
