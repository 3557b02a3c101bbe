use Rattle.std.proofs.Common.{◌<◌, length, arith}
use Rattle.sip_vector.specs.declared.update.Side.TheVariants.{First, Second}
use Rattle.sip_c.specs.Weighing.{Place}
use Rattle.sip_c.proofs.Weighed.{come_next, weight_next}
use Rattle.sip_c.proofs.testing.first_bad.Goals as goal

pub loop-place-preserved : goal.loop-place-preserved
loop-place-preserved g c =
    let codes = g.C.Codes.codes c.args.codes.now in
    let k = c.loop-place.place in
    let code = c.at-code.result in
    let so = c.loop-place.invariant in
    let p : Place = record { depth = c.args.depth; first = c.args.first; second = c.args.second } in
    let lt : k < length codes = omega (arith, c.loop-place-test.true, c.count-place-end.ensures) in
    record {
      left = weight_next codes k c.args.first c.loop-place.left c.sizes-more.result.0 code First lt c.at-code.ensures so.left c.sizes-more.ensures.first;
      right = weight_next codes k c.args.second c.loop-place.right c.sizes-more.result.1 code Second lt c.at-code.ensures so.right c.sizes-more.ensures.second;
      come = λ _. come_next p codes k c.loop-place.left c.loop-place.right code lt c.at-code.ensures so.left so.right so.come c.in_default.ensures.none;
    }
