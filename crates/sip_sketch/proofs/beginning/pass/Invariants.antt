-- The draws so far gave challenges.
use Rattle.sip_sketch.proofs.Begun.{AreDrawn}
use Rattle.sip_sketch.proofs.beginning.pass.Given as goal

abbrev pub invariant-loop : goal.invariant-loop
invariant-loop g l = AreDrawn l.count (g.R.Rng.stream l.initial.rng) (g.R.Rng.stream l.rng) l.counter
