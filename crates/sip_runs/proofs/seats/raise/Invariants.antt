-- The seats so far have taken the updates.
use Rattle.sip_runs.proofs.Raised.{RaisedTo}
use Rattle.sip_runs.proofs.Seated.{IsRaised}
use Rattle.sip_runs.proofs.seats.raise.Given as goal

abbrev pub invariant-loop-seat : goal.invariant-loop-seat
invariant-loop-seat l = RaisedTo (IsRaised l.updates) l.seat-index l.fn.seats l.seats
