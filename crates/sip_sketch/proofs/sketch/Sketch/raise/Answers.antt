-- What is told of the stream, and each seat, before and after more updates.
use Rattle.std.proofs.Common.{◌≡◌, ◌<◌, All, length, sym, ap, subst, ◌∙◌, arith}
use Rattle.std.proofs.lemmas.List.{with_items_is}
use Rattle.sip_vector.specs.Tallies.{IsSound, joined}
use Rattle.sip_vector.specs.declared.update.Side.TheVariants.{First, Second}
use Rattle.sip_vector.specs.declared.update.Update.{Update}
use Rattle.sip_verifier.proofs.Seating.{all_own}
use Rattle.sip_sketch.proofs.Grown.{all_grown, all_sketch, next_seat, seen}
use Rattle.sip_sketch.proofs.Lifted.{raised-more}
use Rattle.sip_sketch.proofs.Sound.{come_sound, told_same}
use Rattle.sip_sketch.proofs.Summed.{weighed}
use Rattle.sip_sketch.proofs.sketch.Sketch.raise.Goals as goal

pub absorb-requires-clause-other : goal.absorb-requires-clause-other
absorb-requires-clause-other c =
    let us = c.args.updates.now in
    let e = c.told-more.ensures in
    let told = told_same c.told-more.result us e.count (e.first ∙ c.weight_of.ensures ∙ ap weighed c.requires.firsts) (e.second ∙ c.weight_of-2.ensures ∙ ap weighed c.requires.seconds) e.negatives e.fingerprint in
    subst IsSound (sym told) (come_sound c.args.self.now us c.requires.next)

pub update_all-requires : goal.update_all-requires
update_all-requires c =
    let us = c.args.updates.now in
    let takes = next_seat (seen c.self.inside) c.args.self.now us c.args.firsts.now c.args.seconds.now c.loop-seat.seat-index c.loop-seat.seat-items c.seat-item.result
    c.self.view_is c.self.invariant c.requires.next c.requires.firsts c.requires.seconds c.loop-seat.invariant (omega arith) in
    record {
      shallow = takes.shallow;
      firsts = takes.firsts_below;
      seconds = takes.seconds_below;
      first_side = subst (All (λ (u : Update). u.side ≡ First)) (sym c.requires.firsts) (all_own us First);
      second_side = subst (All (λ (u : Update). u.side ≡ Second)) (sym c.requires.seconds) (all_own us Second);
      room = takes.room;
    }

pub loop-seat-preserved : goal.loop-seat-preserved
loop-seat-preserved c =
    let us = c.args.updates.now in
    let inside : c.loop-seat.seat-index < length c.loop-seat.seat-items = omega arith in
    raised-more us c.loop-seat.seat-index c.args.self.now.seats c.loop-seat.seat-items c.seat-item.result c.update_all.new.self c.loop-seat.invariant inside
    (c.update_all.ensures.raised us c.requires.firsts c.requires.seconds)

pub invariant_of-self : goal.invariant_of-self
invariant_of-self c =
    let us = c.args.updates.now in
    let e = c.told-more.ensures in
    let told = told_same c.told-more.result us e.count (e.first ∙ c.weight_of.ensures ∙ ap weighed c.requires.firsts) (e.second ∙ c.weight_of-2.ensures ∙ ap weighed c.requires.seconds) e.negatives e.fingerprint in
    let len : length c.loop-seat.seat-items ≡ length c.self.inside.seats.items = c.loop-seat.auto.seat-items ∙ ap length c.deref_mut-seat-items.ensures.value in
    all_sketch (seen c.self.inside) c.args.self.now us c.loop-seat.seat-index c.absorb.new.self _ c.loop-seat.seat-items c.self.view_is
    (c.absorb.ensures ∙ ap (joined c.self.inside.tally) told) (with_items_is c.self.inside.seats c.loop-seat.seat-items (len ∙ sym c.self.inside.seats.ok.0))
    c.requires.next c.loop-seat.invariant (omega (arith, len)) c.self.invariant len

pub returns : goal.returns
returns c =
    let e = c.told-more.ensures in
    let told = told_same c.told-more.result c.args.updates.now e.count (e.first ∙ c.weight_of.ensures ∙ ap weighed c.requires.firsts) (e.second ∙ c.weight_of-2.ensures ∙ ap weighed c.requires.seconds) e.negatives e.fingerprint in
    let len : length c.loop-seat.seat-items ≡ length c.self.inside.seats.items = c.loop-seat.auto.seat-items ∙ ap length c.deref_mut-seat-items.ensures.value in
    all_grown (seen c.self.inside) c.args.self.now c.args.updates.now c.loop-seat.seat-index c.absorb.new.self _ c.loop-seat.seat-items c.self.view_is
    (c.absorb.ensures ∙ ap (joined c.self.inside.tally) told) (with_items_is c.self.inside.seats c.loop-seat.seat-items (len ∙ sym c.self.inside.seats.ok.0))
    c.requires.next c.loop-seat.invariant (omega (arith, len))
