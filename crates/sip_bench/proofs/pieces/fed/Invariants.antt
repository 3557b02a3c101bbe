-- The question is under way.
use Rattle.sip_steps.specs.Questioned.{HasBegun}
use Rattle.sip_bench.proofs.pieces.fed.Given as goal

abbrev pub invariant-loop-piece : goal.invariant-loop-piece
invariant-loop-piece l = HasBegun l.asking
