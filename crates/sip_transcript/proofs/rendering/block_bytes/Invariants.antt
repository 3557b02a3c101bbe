-- The challenges so far.
use Rattle.std.proofs.Common.{◌≡◌, ◌*◌, take}
use Rattle.std.specs.List.{flat_map}
use Rattle.arrayvec.specs.ArrayVec.{array_vec_len}
use Rattle.sip_wire.specs.Spelling.{in_bytes}
use Rattle.sip_transcript.proofs.rendering.block_bytes.Given as goal

abbrev pub invariant-loop-challenge : goal.invariant-loop-challenge
invariant-loop-challenge l = record {
  put : l.bytes.items ≡ flat_map (in_bytes 8) (take l.challenge-index l.block);
  len : array_vec_len l.bytes ≡ 8 * l.challenge-index;
}
