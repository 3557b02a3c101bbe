use Rattle.sip_keeping.specs.inside.SoFar.{AreSeatsTo}
use Rattle.sip_keeping.proofs.seats.read_seats.Given as goal

-- the words so far ask for these seats
abbrev pub invariant-loop-number : goal.invariant-loop-number
invariant-loop-number l = AreSeatsTo l.words l.first l.number l.kinds.items
