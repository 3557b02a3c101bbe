-- The used seats so far are in the place of the part's.
use Rattle.std.proofs.Common.{◌≡◌, length}
use Rattle.sip_sketch.proofs.Placing.{AreLeft, placed_to}
use Rattle.sip_sketch.proofs.sum.put_used.Given as goal

abbrev pub invariant-loop-index : goal.invariant-loop-index
invariant-loop-index l = record {
  seats : l.seats ≡ placed_to l.index l.fn.others l.fn.seats;
  others : AreLeft l.index l.fn.others l.others;
  long : length l.others ≡ length l.fn.others;
}
