use Rattle.std.proofs.Common.{refl, ◌^◌, ◌<◌, ◌≤◌, nat_abs, arith}
use Rattle.std.proofs.lemmas.List.Elements.{All-replicate}
use Rattle.std.proofs.lemmas.Nat.{pow_pos}
use Rattle.sip_vector.specs.declared.update.Update.{Update}
use Rattle.sip_bench.proofs.blocks.next_block.Goals as goal

pub loop-at-init : goal.loop-at-init
loop-at-init c =
    let inside : Update → Type 0 = λ u. u.item < 2 ^ c.args.depth in
    let small : Update → Type 0 = λ u. nat_abs u.delta ≤ 8 in
    record { long = refl; items = All-replicate inside 512 _ (pow_pos _); deltas = All-replicate small 512 _ (omega arith) }
