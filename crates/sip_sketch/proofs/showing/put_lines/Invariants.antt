-- The lines so far, and those of the seats that are left.
use Rattle.std.proofs.Common.{◌≡◌, ◌+◌, ◌*◌, ◌≤◌, ◌++◌, drop}
use Rattle.arrayvec.specs.ArrayVec.{array_vec_len}
use Rattle.sip_sketch.specs.SeatLines.{lines_of, seat_lines}
use Rattle.sip_sketch.proofs.showing.put_lines.Given as goal

abbrev pub invariant-loop-index : goal.invariant-loop-index
invariant-loop-index l = record {
  items : l.out.items ++ seat_lines l.index (drop l.index l.fn.sketch.seats) ≡ lines_of l.fn.sketch;
  len : array_vec_len l.out ≤ 228 + 42 * l.index;
}
