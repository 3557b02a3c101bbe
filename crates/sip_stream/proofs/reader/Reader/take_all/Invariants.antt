-- What was counted so far stands in front in the block, and is legal where no test fails of it.
use Rattle.std.proofs.Common.{◌≡◌, ◌≤◌, ◌-◌, length}
use Rattle.sip_stream.specs.Batches.{HaveCome}
use Rattle.sip_stream.proofs.reader.Reader.take_all.Given as goal

abbrev pub invariant-loop-count : goal.invariant-loop-count
invariant-loop-count g l = record {
  few : l.count ≤ l.most;
  came : HaveCome l.fn.self g.row.WIDTH l.bytes l.batch l.count l.block;
  len : length l.block ≡ length l.fn.block;
}

abbrev pub decreases-loop-count : goal.decreases-loop-count
decreases-loop-count g l = l.most - l.count
