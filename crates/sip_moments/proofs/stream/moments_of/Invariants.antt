-- The moments so far.
use Rattle.std.proofs.Common.{◌≡◌, take}
use Rattle.sip_moments.proofs.stream.moments_of.Given as goal

abbrev pub invariant-loop-moment : goal.invariant-loop-moment
invariant-loop-moment l = l.moments.items ≡ take l.moment-index l.task.moments.items
