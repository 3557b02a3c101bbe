use Rattle.std.proofs.Common.{◌≡◌, ◌≢◌, sym, ◌∙◌, arith}
use Rattle.std.proofs.lemmas.List.{take_rest}
use Rattle.sip_vector.specs.Levels.{residue_above}
use Rattle.sip_vector.proofs.SpotsAbove.{fold_none, fold_more, fold_all}
use Rattle.sip_vector.proofs.level.fold_spots.Goals as goal

pub loop-read-preserved-then-number-ne0 : goal.loop-read-preserved-then-number-ne0
loop-read-preserved-then-number-ne0 g c =
    let join = residue_above g.F.Field.MODULUS c.args.rule (g.F.Field.number c.args.r) in
    let some : g.F.Field.number c.spot_above-count.result.0.value ≢ 0 = rw c.number.ensures at c.if-number-ne0.true in
    let above = rw (c.deref.ensures.value, take_rest c.loop-read.spots.items c.loop-read.read) at c.spot_above-count.ensures.above in
    record {
      before = omega (arith, c.loop-read.invariant.before, c.spot_above-count.ensures.some);
      within = omega (arith, c.spot_above-count.ensures.within, c.deref.ensures.len, c.loop-read.invariant.within, c.len.ensures, c.loop-read-test.true);
      above = fold_more g.F.Field.number join c.loop-read.spots.items c.loop-read.written c.loop-read.read c.spot_above-count.result.1 c.spot_above-count.result.0 _ some c.loop-read.invariant.before (omega (arith, c.loop-read-test.true, c.len.ensures)) c.spot_above-count.ensures.some above c.loop-read.invariant.above;
    }

pub loop-read-preserved : goal.loop-read-preserved
loop-read-preserved g c =
    let join = residue_above g.F.Field.MODULUS c.args.rule (g.F.Field.number c.args.r) in
    let none : g.F.Field.number c.spot_above-count.result.0.value ≡ 0 = sym c.number.ensures ∙ c.if-number-ne0.false in
    let above = rw (c.deref.ensures.value, take_rest c.loop-read.spots.items c.loop-read.read) at c.spot_above-count.ensures.above in
    record {
      before = omega (arith, c.loop-read.invariant.before, c.spot_above-count.ensures.some);
      within = omega (arith, c.spot_above-count.ensures.within, c.deref.ensures.len, c.loop-read.invariant.within, c.len.ensures, c.loop-read-test.true);
      above = fold_none g.F.Field.number join c.loop-read.spots.items c.loop-read.written c.loop-read.read c.spot_above-count.result.1 c.spot_above-count.result.0.index (g.F.Field.number c.spot_above-count.result.0.value) _ none above c.loop-read.invariant.above;
    }

pub returns : goal.returns
returns g c =
    let join = residue_above g.F.Field.MODULUS c.args.rule (g.F.Field.number c.args.r) in
    rw c.truncate.ensures.items (fold_all g.F.Field.number join c.loop-read.spots.items c.loop-read.written c.loop-read.read _ (omega (arith, c.loop-read-test.false, c.len.ensures)) c.loop-read.invariant.above)
