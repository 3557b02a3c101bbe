use Rattle.std.proofs.Common.{◌≡◌, ◌^◌, ◌<◌, ◌≤◌, nat_abs, length}
use Rattle.std.specs.Prelude.{All}
use Rattle.sip_bench.proofs.blocks.next_block.Given as goal

abbrev pub invariant-loop-at : goal.invariant-loop-at
invariant-loop-at l = record {
  long : length l.block ≡ 512;
  items : All (λ u. u.item < 2 ^ l.depth) l.block;
  deltas : All (λ u. nat_abs u.delta ≤ 8) l.block;
}
