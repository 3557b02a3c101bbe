-- The run goes on, and no more was taken than there is.
use Rattle.std.proofs.Common.{◌≤◌, length}
use Rattle.sip_runs.specs.Runs.{HasBegun}
use Rattle.sip_run_tests.proofs.passing.pass.Given as goal

abbrev pub invariant-loop-turn : goal.invariant-loop-turn
invariant-loop-turn l = record {
  begun : HasBegun l.following;
  most : l.taken ≤ length l.updates;
}
