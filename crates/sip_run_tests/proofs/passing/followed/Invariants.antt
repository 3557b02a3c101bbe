-- The run goes on.
use Rattle.sip_runs.specs.Runs.{HasBegun}
use Rattle.sip_run_tests.proofs.passing.followed.Given as goal

abbrev pub invariant-loop-piece : goal.invariant-loop-piece
invariant-loop-piece l = HasBegun l.following
