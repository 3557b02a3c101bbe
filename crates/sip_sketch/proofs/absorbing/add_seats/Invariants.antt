-- The sums so far.
use Rattle.std.proofs.Common.{◌≡◌}
use Rattle.sip_sketch.proofs.Added.{added_to}
use Rattle.sip_sketch.proofs.absorbing.add_seats.Given as goal

abbrev pub invariant-loop-index : goal.invariant-loop-index
invariant-loop-index l = l.seats ≡ added_to l.index l.fn.seats l.others
