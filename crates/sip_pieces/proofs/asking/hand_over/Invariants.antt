-- The run goes on, and no more was taken than there is.
use Rattle.std.proofs.Common.{◌≤◌, length}
use Rattle.sip_runs.specs.Runs.{HasBegun}
use Rattle.sip_pieces.proofs.asking.hand_over.Given as goal

abbrev pub invariant-loop-frame : goal.invariant-loop-frame
invariant-loop-frame g l = record {
  begun : HasBegun l.following;
  most : l.taken ≤ length l.updates;
}
