-- So far they are the same.
use Rattle.std.proofs.Common.{◌≡◌, length, drop}
use Rattle.std.specs.Prelude.{bytes_eq}
use Rattle.sip_sketch.proofs.absorbing.same_block.Given as goal

abbrev pub invariant-loop-level : goal.invariant-loop-level
invariant-loop-level l = record {
  all : l.level-end ≡ length l.one;
  rest : bytes_eq (drop l.level l.one) (drop l.level l.other) ≡ bytes_eq l.one l.other;
}
