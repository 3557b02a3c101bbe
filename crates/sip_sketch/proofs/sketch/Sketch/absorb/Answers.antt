-- The sketch and the part, where no reason stands against it.
use Rattle.std.proofs.Common.{◌++◌, List, length, sym, ap, ap₂, subst, ◌∙◌}
use Rattle.std.specs.List.{AllZip}
use Rattle.std.proofs.lemmas.List.{with_items_is}
use Rattle.sip_sketch.specs.Joining.{added_seats, unlike}
use Rattle.sip_sketch.specs.Sketches.{IsSketch, SeatValues}
use Rattle.sip_sketch.specs.Standing.{Stands}
use Rattle.sip_sketch.specs.inside.Adding.{AddUp}
use Rattle.sip_sketch.proofs.Alike.{joins_from}
use Rattle.sip_sketch.proofs.Grown.{seen}
use Rattle.sip_sketch.proofs.Sound.{sound_from}
use Rattle.sip_sketch.proofs.Summing.{all_add_up, left_is, sum_sketch, sum_stands}
use Rattle.sip_sketch.proofs.Whole.{head_from}
use Rattle.sip_sketch.proofs.sketch.Sketch.absorb.Goals as goal

pub absorb-requires-clause-own : goal.absorb-requires-clause-own
absorb-requires-clause-own c = sound_from (seen c.self.inside) (head_from (seen c.self.inside) c.self.invariant)

pub add_seats-requires : goal.add_seats-requires
add_seats-requires c =
    let joins = joins_from (seen c.self.inside) (seen c.other.inside) (ap₂ unlike c.self.view_is c.other.view_is ∙ sym c.unlike.ensures ∙ c.in_default.is) in
    subst (λ (l : List SeatValues). AllZip AddUp l c.deref.result.now) (sym c.deref_mut.ensures.value)
    (subst (AllZip AddUp c.self.inside.seats.items) (sym c.deref.ensures.value) (all_add_up (seen c.self.inside) (seen c.other.inside) c.self.invariant c.other.invariant joins))

pub invariant_of-self : goal.invariant_of-self
invariant_of-self c =
    let joins = joins_from (seen c.self.inside) (seen c.other.inside) (ap₂ unlike c.self.view_is c.other.view_is ∙ sym c.unlike.ensures ∙ c.in_default.is) in
    let v = c.self.inside.seats in
    let len = c.add_seats.auto.seats ∙ ap length c.deref_mut.ensures.value in
    let items = with_items_is v c.add_seats.new.seats (len ∙ sym v.ok.0) ∙ c.add_seats.ensures ∙ ap₂ added_seats c.deref_mut.ensures.value c.deref.ensures.value in
    subst IsSketch (sym (left_is (seen c.self.inside) (seen c.other.inside) c.absorb.new.self _ c.absorb.ensures items))
    (sum_sketch (seen c.self.inside) (seen c.other.inside) c.self.invariant c.other.invariant joins)

pub returns-clause-stands : goal.returns-clause-stands
returns-clause-stands c = λ stream more own others.
    let joins = joins_from (seen c.self.inside) (seen c.other.inside) (ap₂ unlike c.self.view_is c.other.view_is ∙ sym c.unlike.ensures ∙ c.in_default.is) in
    let len = c.add_seats.auto.seats ∙ ap length c.deref_mut.ensures.value in
    let items = with_items_is c.self.inside.seats c.add_seats.new.seats (len ∙ sym c.self.inside.seats.ok.0) ∙ c.add_seats.ensures ∙ ap₂ added_seats c.deref_mut.ensures.value c.deref.ensures.value in
    subst (Stands (stream ++ more)) (sym (left_is (seen c.self.inside) (seen c.other.inside) c.absorb.new.self _ c.absorb.ensures items))
    (sum_stands (seen c.self.inside) (seen c.other.inside) c.self.invariant c.other.invariant joins stream more
    (subst (Stands stream) (sym c.self.view_is) own) (subst (Stands more) (sym c.other.view_is) others))
