use Rattle.sip_verifier.proofs.SeatsRaised.{RaisedTo}
use Rattle.sip_verifier.proofs.seats.Seats.raise.Given as goal

abbrev pub invariant-loop-seat : goal.invariant-loop-seat
invariant-loop-seat l = RaisedTo l.fn.side l.updates l.seat-index l.fn.self.seats l.seat-items
