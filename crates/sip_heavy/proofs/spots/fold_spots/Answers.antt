use Rattle.std.proofs.Common.{◌^◌, ◌<◌, drop, vec_len, arith}
use Rattle.std.proofs.lemmas.List.{take_rest}
use Rattle.std.proofs.lemmas.List.Elements.{All-drop, All-same}
use Rattle.sip_heavy.proofs.SpotFolds.{fold_more, left_behind}
use Rattle.sip_heavy.proofs.spots.fold_spots.Goals as goal

pub loop-read-preserved : goal.loop-read-preserved
loop-read-preserved g c =
    let p = g.F.Field.MODULUS in
    let r = g.F.Field.number c.args.r in
    let spots = c.loop-read.spots.items in
    let read = c.loop-read.read in
    let first = c.first_above-above in
    let count = first.result.spots in
    let behind = left_behind spots c.loop-read.written read count first.result.node c.loop-read.invariant.before first.ensures.some in
    let above = rw (c.deref.ensures.value, take_rest spots read) at first.ensures.above in
    let last : read < vec_len c.loop-read.spots = omega (arith, c.loop-read-test.true, c.len.ensures) in
    record {
      before = omega (arith, c.loop-read.invariant.before, first.ensures.some);
      within = omega (arith, first.ensures.within, c.deref.ensures.len, c.loop-read.invariant.within, last);
      light = All-same (λ x. x.count < 2 ^ 61) _ _ behind (All-drop (λ x. x.count < 2 ^ 61) count (drop read spots) c.loop-read.invariant.light);
      hashes = All-same (λ x. x.hash < p) _ _ behind (All-drop (λ x. x.hash < p) count (drop read spots) c.loop-read.invariant.hashes);
      square = c.loop-read.invariant.square;
      above = fold_more p r spots c.loop-read.written read count first.result.node _ c.loop-read.invariant.before (omega (arith, last)) first.ensures.some above c.loop-read.invariant.above;
    }
