-- The talk is under way, or has ended.
use Rattle.sip_steps.specs.Served.{HasBegun}
use Rattle.sip_pieces.proofs.helping.help.Given as goal

abbrev pub invariant-loop-piece : goal.invariant-loop-piece
invariant-loop-piece g l = HasBegun g.H.Helps.rules g.H.Helps.turns_left g.H.Helps.is_live l.serving
