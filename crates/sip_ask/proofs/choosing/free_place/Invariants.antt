-- Those that are left decide.
use Rattle.std.proofs.Common.{◌≡◌, drop}
use Rattle.sip_ask.specs.Choosing.{free_from}
use Rattle.sip_ask.proofs.choosing.free_place.Given as goal

abbrev pub invariant-loop-place : goal.invariant-loop-place
invariant-loop-place l = free_from l.kind l.taken l.place (drop l.place l.seats) ≡ free_from l.kind l.taken 0 l.seats
