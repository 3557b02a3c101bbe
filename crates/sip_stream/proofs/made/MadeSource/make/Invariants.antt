-- The records that were made and those after them are the records that were to come.
use Rattle.std.proofs.Common.{◌≡◌, ◌≤◌, ◌++◌, length, take}
use Rattle.sip_stream.specs.Made.{made_bytes}
use Rattle.sip_stream.proofs.made.MadeSource.make.Given as goal

abbrev pub invariant-loop-more : goal.invariant-loop-more
invariant-loop-more g l = record {
  within : l.end ≤ 4096;
  long : length l.self.block ≡ 4096;
  same : take l.end l.self.block ++ made_bytes l.state l.more l.depth ≡ made_bytes l.fn.self.state l.fn.self.more l.fn.self.depth;
  depth : l.depth ≡ l.fn.self.depth;
  kept : l.self.depth ≡ l.fn.self.depth;
}

abbrev pub decreases-loop-more : goal.decreases-loop-more
decreases-loop-more g l = l.more
