use Rattle.std.proofs.Common.{◌≡◌}
use Rattle.sip_sketch.proofs.sketch.Sketch.keep_tables.Given as goal

-- the seats are as they were
abbrev pub invariant-loop-seat : goal.invariant-loop-seat
invariant-loop-seat l = l.seat-items ≡ l.fn.self.seats
