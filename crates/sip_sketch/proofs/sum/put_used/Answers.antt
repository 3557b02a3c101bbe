-- One used seat more is in its place.
use Rattle.std.proofs.Common.{◌≡◌, ◌<◌, ◌≤◌, true, false, length, get_or, set, sym, ap, ◌∙◌, arith, le_refl}
use Rattle.std.proofs.lemmas.List.{get_or_default, get_or-set_other, length-set}
use Rattle.sip_sketch.specs.Sketches.{SeatValues}
use Rattle.sip_sketch.proofs.Placing.{placed-all, placed-unused, placed-used}
use Rattle.sip_sketch.proofs.sum.put_used.Goals.{then-is_used, else-is_used}
use Rattle.sip_sketch.proofs.sum.put_used.Goals as goal

pub loop-index-preserved : goal.loop-index-preserved
loop-index-preserved c =
    let i = c.loop-index.index in
    let seats = c.args.seats.now in
    let others = c.args.others.now in
    let so = c.loop-index.invariant in
    let e = c.index-others-index.result in
    let lt : i < length seats = omega arith in
    let lt' : i < length others = omega (arith, lt, c.requires) in
    let left = so.others i e (le_refl i) in
    elim c.if-is_used.branch [
      | then-is_used w ↦
          let d = w.index-others-index-then-is_used.result in
          let used : (get_or others i d).is_used ≡ true =
          ap (λ (x : SeatValues). x.is_used) (get_or_default others i d e lt' ∙ sym left) ∙ sym c.is_used.ensures ∙ w.if-is_used.true in
          record {
            seats = w.seats-is ∙ ap (set c.loop-index.seats i) (w.swap.ensures.x_after ∙ so.others i d (le_refl i)) ∙ ap (λ l. set l i (get_or others i d)) so.seats
                ∙ placed-used i others seats w.index-seats-index.result d lt lt' used;
            others = λ j x le. ap (λ l. get_or l j x) w.others-is ∙ get_or-set_other c.loop-index.others i j w.swap.new.y x (omega (arith, le)) ∙ so.others j x (omega (arith, le));
            long = ap length w.others-is ∙ length-set c.loop-index.others i w.swap.new.y ∙ so.long;
          }
      | else-is_used w ↦
          let unused : (get_or others i e).is_used ≡ false = ap (λ (x : SeatValues). x.is_used) (sym left) ∙ sym c.is_used.ensures ∙ w.if-is_used.false in
          record {
            seats = w.seats-is ∙ so.seats ∙ placed-unused i others seats e lt lt' unused;
            others = λ j x le. ap (λ l. get_or l j x) w.others-is ∙ so.others j x (omega (arith, le));
            long = ap length w.others-is ∙ so.long;
          }
    ]

pub returns : goal.returns
returns c =
    let le : length c.args.seats.now ≤ c.loop-index.index = omega (arith, c.loop-index-test.false) in
    c.loop-index.invariant.seats ∙ placed-all c.loop-index.index c.args.others.now c.args.seats.now c.requires le
