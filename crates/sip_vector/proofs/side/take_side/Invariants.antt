use Rattle.std.proofs.Common.{◌≡◌, ◌≤◌, length, take}
use Rattle.sip_vector.specs.Streams.{of_side}
use Rattle.sip_vector.proofs.side.take_side.Given as goal

abbrev pub invariant-loop-update : goal.invariant-loop-update
invariant-loop-update l = record {
  long : length l.taken ≡ length l.fn.taken;
  most : l.count ≤ l.update-index;
  taken : take l.count l.taken ≡ of_side (take l.update-index l.fn.updates) l.fn.side;
}
