-- What updates of one side leave alone. (For the proof of `Seats::update_all` alone.)
use Rattle.std.specs.Prelude.{◌≡◌, false, List}
use Rattle.std.specs.List.{AllZip}
use Rattle.sip_vector.specs.declared.update.Side.{Side}
use Rattle.sip_verifier.specs.QuerySeats.{Seated, concerns}

-- the seats that the side does not concern are as they were
abbrev pub AreLeft : Side → List Seated → List Seated → Type 0
AreLeft side old new = AllZip (λ was now. concerns now.query side ≡ false → now ≡ was) old new
