-- The run goes on, and so does the reader.
use Rattle.std.proofs.Common.{◌≡◌, false}
use Rattle.sip_runs.specs.Runs.{HasBegun}
use Rattle.sip_pieces.proofs.asking.follow.Given as goal

abbrev pub invariant-loop-piece : goal.invariant-loop-piece
invariant-loop-piece g l = record {
  begun : HasBegun l.following;
  ready : l.reader.is_spent ≡ false;
}
