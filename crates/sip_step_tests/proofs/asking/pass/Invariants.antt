-- Each turn takes a byte at least.
use Rattle.std.proofs.Common.{◌-◌, ◌≤◌, length}
use Rattle.sip_steps.specs.Asked.{IsBegun}
use Rattle.sip_step_tests.proofs.asking.pass.Given as goal

abbrev pub invariant-loop-taken : goal.invariant-loop-taken
invariant-loop-taken g l = record {
  begun : IsBegun g.C.Check.protocol g.C.Check.stands g.C.Check.phase g.Q.Request.message l.asking;
  most : l.taken ≤ length l.bytes;
}

abbrev pub decreases-loop-taken : goal.decreases-loop-taken
decreases-loop-taken g l = length l.bytes - l.taken
