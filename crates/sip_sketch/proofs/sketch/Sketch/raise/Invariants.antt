-- The seats so far.
use Rattle.sip_sketch.proofs.Lifted.{RaisedTo}
use Rattle.sip_sketch.proofs.sketch.Sketch.raise.Given as goal

abbrev pub invariant-loop-seat : goal.invariant-loop-seat
invariant-loop-seat l = RaisedTo l.updates l.seat-index l.fn.self.seats l.seat-items
