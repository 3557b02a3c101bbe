-- The rest is to be asked.
use Rattle.sip_run_tests.specs.Left.{AreLeft}
use Rattle.sip_pieces.proofs.asking.ask_all.Given as goal

abbrev pub invariant-loop-number : goal.invariant-loop-number
invariant-loop-number g l = AreLeft l.to_ask
