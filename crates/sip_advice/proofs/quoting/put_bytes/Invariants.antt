use Rattle.std.proofs.Common.{◌≡◌, ◌+◌, ◌*◌, ◌≤◌, ◌++◌, take}
use Rattle.std.specs.List.{flat_map}
use Rattle.arrayvec.specs.ArrayVec.{array_vec_len}
use Rattle.sip_advice.specs.Quoting.{shown}
use Rattle.sip_advice.proofs.quoting.put_bytes.Given as goal

-- those before are shown
abbrev pub invariant-loop-byte : goal.invariant-loop-byte
invariant-loop-byte g l = record {
  items : l.gathered.items ≡ l.fn.gathered.items ++ flat_map shown (take l.byte-index l.bytes);
  len : array_vec_len l.gathered ≤ array_vec_len l.fn.gathered + 4 * l.byte-index;
}
