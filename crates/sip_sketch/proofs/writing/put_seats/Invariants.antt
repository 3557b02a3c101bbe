-- The seats so far.
use Rattle.std.proofs.Common.{◌≡◌, ◌+◌, ◌*◌, ◌≤◌, vec_capacity, vec_len}
use Rattle.sip_vector.specs.declared.tally.Tally.{Tally}
use Rattle.sip_sketch.proofs.Putting.{PutsSeats}
use Rattle.sip_sketch.proofs.writing.put_seats.Given as goal

abbrev pub invariant-loop-seat : goal.invariant-loop-seat
invariant-loop-seat l = record {
  len : vec_len l.out ≡ vec_len l.fn.out + l.seat-index * (18 + 8 * l.fn.depth);
  capacity : vec_capacity l.fn.out ≤ vec_capacity l.out;
  puts : (tally : Tally) → PutsSeats l.fn.out.items l.out.items l.fn.depth tally l.seats l.seat-index;
}
