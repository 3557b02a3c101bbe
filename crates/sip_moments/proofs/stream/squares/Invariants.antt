-- The moments so far have their seats.
use Rattle.std.proofs.Common.{◌≡◌, map, take}
use Rattle.sip_moments.specs.Sittings.{square_of}
use Rattle.sip_moments.proofs.stream.squares.Given as goal

abbrev pub invariant-loop-moment : goal.invariant-loop-moment
invariant-loop-moment l = l.queries.items ≡ map square_of (take l.moment-index l.task.moments.items)
