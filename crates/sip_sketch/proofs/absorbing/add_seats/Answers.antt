-- One seat more.
use Rattle.std.proofs.Common.{◌<◌, ◌≤◌, List, length, get_or, set, sym, ap, subst, ◌∙◌, arith}
use Rattle.std.proofs.lemmas.List.Elements.{AllZip-get_or, length_all_zip}
use Rattle.sip_sketch.specs.Joining.{added_seat}
use Rattle.sip_sketch.specs.Sketches.{SeatValues}
use Rattle.sip_sketch.specs.inside.Adding.{AddUp}
use Rattle.sip_sketch.proofs.Added.{added-all, added-more, added-old, added_to}
use Rattle.sip_sketch.proofs.absorbing.add_seats.Goals as goal

pub absorb-requires : goal.absorb-requires
absorb-requires c =
    let seats = c.args.seats.now in
    let i = c.loop-index.index in
    let d = c.index-seats-index.result in
    let e = c.index-others-index.result in
    let lt : i < length seats = omega arith in
    let own = ap (λ (l : List SeatValues). get_or l i d) c.loop-index.invariant ∙ added-old i seats c.args.others.now d in
    subst (λ x. AddUp x e) (sym own) (subst (AddUp (get_or seats i d)) (sym c.index-others-index.is) (AllZip-get_or AddUp seats c.args.others.now i d e c.requires lt))

pub loop-index-preserved : goal.loop-index-preserved
loop-index-preserved c =
    let seats = c.args.seats.now in
    let others = c.args.others.now in
    let i = c.loop-index.index in
    let d = c.index-seats-index.result in
    let e = c.index-others-index.result in
    let lt : i < length seats = omega arith in
    let lt' : i < length others = omega (arith, lt, length_all_zip AddUp seats others c.requires) in
    let own = ap (λ (l : List SeatValues). get_or l i d) c.loop-index.invariant ∙ added-old i seats others d in
    let one = c.absorb.ensures ∙ ap (λ x. added_seat x e) own ∙ ap (added_seat (get_or seats i d)) c.index-others-index.is in
    ap (λ (l : List SeatValues). set l i c.absorb.new.self) c.loop-index.invariant ∙ ap (set (added_to i seats others) i) one ∙ added-more i seats others d e lt lt'

pub returns : goal.returns
returns c =
    let seats = c.args.seats.now in
    let le : length seats ≤ c.loop-index.index = omega (arith, c.loop-index-test.false) in
    c.loop-index.invariant ∙ added-all c.loop-index.index seats c.args.others.now (length_all_zip AddUp seats c.args.others.now c.requires) le
