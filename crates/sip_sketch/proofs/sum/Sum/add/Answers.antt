-- The next part, where no reason stands against it.
use Rattle.std.proofs.Common.{List, length, sym, ap, ap₂, subst, ◌∙◌}
use Rattle.std.specs.List.{AllZip}
use Rattle.std.proofs.lemmas.List.{with_items_is}
use Rattle.sip_sketch.specs.Joining.{added_seats}
use Rattle.sip_sketch.specs.Sketches.{IsSketch, SeatValues, SketchValues}
use Rattle.sip_sketch.specs.inside.Adding.{AddUp}
use Rattle.sip_sketch.specs.inside.Merging.{cleared}
use Rattle.sip_sketch.proofs.Cleared.{is_free, joined_adds, joined_sketch, sum_seen}
use Rattle.sip_sketch.proofs.Grown.{seen}
use Rattle.sip_sketch.proofs.Sound.{sound_from}
use Rattle.sip_sketch.proofs.Summing.{left_is}
use Rattle.sip_sketch.proofs.Whole.{head_from}
use Rattle.sip_sketch.proofs.sum.Sum.add.Goals as goal

pub absorb-requires-clause-own : goal.absorb-requires-clause-own
absorb-requires-clause-own c =
    let own = cleared (sum_seen c.self.inside) in
    sound_from own (head_from own c.self.invariant)

pub add_seats-requires : goal.add_seats-requires
add_seats-requires c =
    let s = sum_seen c.self.inside in
    let part = seen c.part.inside in
    let free = is_free s part c.args.part.now c.deref.result.now c.unlike.result c.deref.ensures.value c.part.view_is c.unlike.ensures c.in_default.is in
    subst (λ (l : List SeatValues). AllZip AddUp l c.deref-2.result.now) (sym c.deref_mut.ensures.value)
    (subst (AllZip AddUp s.seats) (sym c.deref-2.ensures.value) (joined_adds s part c.self.invariant c.part.invariant free))

pub invariant_of-self : goal.invariant_of-self
invariant_of-self c =
    let s = sum_seen c.self.inside in
    let part = seen c.part.inside in
    let free = is_free s part c.args.part.now c.deref.result.now c.unlike.result c.deref.ensures.value c.part.view_is c.unlike.ensures c.in_default.is in
    let v = c.self.inside.seats in
    let len = c.add_seats.auto.seats ∙ ap length c.deref_mut.ensures.value in
    let items = with_items_is v c.add_seats.new.seats (len ∙ sym v.ok.0) ∙ c.add_seats.ensures ∙ ap₂ added_seats c.deref_mut.ensures.value c.deref-2.ensures.value in
    subst (λ (x : SketchValues). IsSketch (cleared x)) (sym (left_is s part c.absorb.new.self _ c.absorb.ensures items))
    (joined_sketch s part c.self.invariant c.part.invariant free)
