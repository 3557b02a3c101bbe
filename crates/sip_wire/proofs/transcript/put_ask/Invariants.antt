-- The frame of the query, and the challenges so far.
use Rattle.std.proofs.Common.{◌≡◌, ◌+◌, ◌*◌, ◌++◌, take}
use Rattle.std.specs.List.{flat_map}
use Rattle.arrayvec.specs.ArrayVec.{array_vec_len}
use Rattle.sip_wire.specs.Spelling.{in_bytes}
use Rattle.sip_wire.proofs.transcript.put_ask.Given as goal

abbrev pub invariant-loop-level : goal.invariant-loop-level
invariant-loop-level g l = record {
  put : l.out.items ≡ l.initial.out.items ++ flat_map (in_bytes 8) (take l.level l.seat);
  len : array_vec_len l.out ≡ array_vec_len l.initial.out + 8 * l.level;
}
