-- Each turn takes a byte at least.
use Rattle.std.proofs.Common.{◌-◌, ◌≤◌, length}
use Rattle.sip_steps.specs.Questioned.{HasBegun}
use Rattle.sip_step_tests.proofs.kinds.pass.Given as goal

abbrev pub invariant-loop-taken : goal.invariant-loop-taken
invariant-loop-taken l = record {
  begun : HasBegun l.asking;
  most : l.taken ≤ length l.bytes;
}

abbrev pub decreases-loop-taken : goal.decreases-loop-taken
decreases-loop-taken l = length l.bytes - l.taken
