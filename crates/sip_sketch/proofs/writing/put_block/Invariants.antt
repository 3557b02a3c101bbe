-- The challenges so far.
use Rattle.std.proofs.Common.{◌≡◌, ◌+◌, ◌*◌, ◌≤◌, length, vec_capacity, vec_len}
use Rattle.sip_sketch.specs.Fields.{Fields}
use Rattle.sip_sketch.proofs.Putting.{PutsBlock}
use Rattle.sip_sketch.proofs.writing.put_block.Given as goal

abbrev pub invariant-loop-level : goal.invariant-loop-level
invariant-loop-level l = record {
  all : l.level-end ≡ length l.block;
  len : vec_len l.out ≡ vec_len l.fn.out + 8 * l.level;
  capacity : vec_capacity l.fn.out ≤ vec_capacity l.out;
  puts : (behind : Fields) → PutsBlock l.fn.out.items l.out.items l.block l.level behind;
}
