-- The run goes on.
use Rattle.sip_runs.specs.Runs.{HasBegun}
use Rattle.sip_run_tests.proofs.whole_run.hand_over.Given as goal

abbrev pub invariant-loop-turn : goal.invariant-loop-turn
invariant-loop-turn l = HasBegun l.following
