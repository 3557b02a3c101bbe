-- The question is under way, or has a verdict.
use Rattle.sip_steps.specs.Questioned.{HasBegun}
use Rattle.sip_pieces.proofs.asking.exchange.Given as goal

abbrev pub invariant-loop-piece : goal.invariant-loop-piece
invariant-loop-piece g l = HasBegun l.asking
