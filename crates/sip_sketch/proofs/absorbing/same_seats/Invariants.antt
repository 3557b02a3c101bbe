-- So far they are alike.
use Rattle.std.proofs.Common.{◌≡◌, drop}
use Rattle.std.specs.Cmp.Lexicographic.{pointwise}
use Rattle.sip_sketch.specs.Joining.{same_seat}
use Rattle.sip_sketch.proofs.absorbing.same_seats.Given as goal

abbrev pub invariant-loop-index : goal.invariant-loop-index
invariant-loop-index l = pointwise same_seat (drop l.index l.ones) (drop l.index l.others) ≡ pointwise same_seat l.ones l.others
