-- None of the seats so far takes them.
use Rattle.std.proofs.Common.{◌≡◌, All, false, take}
use Rattle.sip_verifier.specs.QuerySeats.{Seated, concerns}
use Rattle.sip_verifier.proofs.seats.Seats.pass_over.Given as goal

abbrev pub invariant-loop-seat : goal.invariant-loop-seat
invariant-loop-seat l = All (λ (s : Seated). concerns s.query l.side ≡ false) (take l.seat-index l.self.seats)
