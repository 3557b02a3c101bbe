-- Those so far, and those of the seats that are left.
use Rattle.std.proofs.Common.{◌≡◌, ◌+◌, ◌≤◌, drop}
use Rattle.sip_keeping.specs.AskHints.{count_left}
use Rattle.sip_keeping.proofs.seats_left.count_left.Given as goal

abbrev pub invariant-loop-seat : goal.invariant-loop-seat
invariant-loop-seat l = record {
  count : l.count + count_left l.kind (drop l.seat-index l.seats) ≡ count_left l.kind l.seats;
  few : l.count ≤ l.seat-index;
}
