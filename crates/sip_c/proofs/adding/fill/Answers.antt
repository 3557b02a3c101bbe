use Rattle.std.proofs.Common.{◌∙◌, ◌+◌, ◌<◌, length, arith}
use Rattle.std.proofs.lemmas.List.{length-set}
use Rattle.sip_c.proofs.Weighed.{filled_more}
use Rattle.sip_c.proofs.adding.fill.Goals as goal

pub loop-place-preserved : goal.loop-place-preserved
loop-place-preserved g c =
    let codes = g.C.Codes.codes c.args.codes.now in
    let k = c.loop-place.place in
    let lt : k < length c.loop-place.block = omega (arith, c.loop-place-test.true, c.min-count.ensures, c.loop-place.invariant.long) in
    let fits : c.args.from + k < length codes = omega (arith, c.loop-place-test.true, c.min-count.ensures, c.count.ensures, c.requires) in
    record {
      long = length-set c.loop-place.block k c.update.result ∙ c.loop-place.invariant.long;
      filled = filled_more codes c.loop-place.block c.args.from k c.at.result c.update.result lt fits c.at.ensures c.update.ensures c.loop-place.invariant.filled;
    }
