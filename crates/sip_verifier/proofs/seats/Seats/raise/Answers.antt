-- The seats keep their queries and their challenges, and each stands for the longer stream.
use Rattle.std.proofs.Common.{◌≡◌, ◌<◌, ◌≤◌, ◌^◌, ◌∙◌, List, ◌++◌, All, length, map, sym, ap, subst, arith}
use Rattle.std.specs.Prelude.{IsTrue}
use Rattle.std.specs.List.{list_all}
use Rattle.sip_vector.specs.declared.update.Update.{Update}
use Rattle.sip_vector.specs.Limits.{most_depth}
use Rattle.sip_wire.specs.Versions.{needed}
use Rattle.sip_verifier.specs.QuerySeats.{Seated, StandsFor, is_seat}
use Rattle.sip_verifier.specs.inside.Raising.{AreLeft}
use Rattle.sip_verifier.specs.Seats.{AreSeats, Seating}
use Rattle.sip_verifier.proofs.SeatsRaised.{RaisedTo, raised-left, none-left, raised-room, raised-more, raised-queries, raised-blocks, raised-seats, raised-stand, refilled, seat-levels}
use Rattle.sip_verifier.proofs.SeatsHead.{seat-at}
use Rattle.sip_verifier.proofs.seats.Seats.raise.Goals as goal

pub update_all-requires : goal.update_all-requires
update_all-requires c =
    let depth = c.self.inside.depth in
    let items = ap (λ (s : Seating). s.seats) c.self.view_is in
    let each = subst (λ (l : List Seated). IsTrue (list_all (is_seat depth) l)) items c.self.inside.each in
    let all = raised-seats c.args.side c.args.updates.now depth _ _ _ c.loop-seat.invariant each in
    let inside : c.loop-seat.seat-index < length c.loop-seat.seat-items = omega arith in
    let levels = seat-levels depth c.loop-seat.seat-index c.loop-seat.seat-items c.seat-item.result all inside in
    let own = ap (λ (s : Seating). s.depth) c.self.view_is in
    record {
      shallow = subst (λ n. n ≤ most_depth) (sym levels) c.self.inside.deep;
      items = subst (λ n. All (λ (u : Update). u.item < 2 ^ n) c.args.updates.now) (sym (levels ∙ own)) c.requires.items;
      sides = c.requires.sides;
      room = raised-room c.args.side c.args.updates.now c.loop-seat.seat-index depth _ _ c.seat-item.result c.loop-seat.invariant inside c.requires.sides
          (seat-at depth c.loop-seat.seat-index c.loop-seat.seat-items c.seat-item.result all inside) c.requires.room;
    }

pub loop-seat-preserved : goal.loop-seat-preserved
loop-seat-preserved c =
    let inside : c.loop-seat.seat-index < length c.loop-seat.seat-items = omega arith in
    raised-more c.args.side c.args.updates.now c.loop-seat.seat-index c.args.self.now.seats c.loop-seat.seat-items c.seat-item.result c.update_all.new.self c.loop-seat.invariant inside
    (record { query = c.update_all.ensures.query; block = c.update_all.ensures.block; kept = c.update_all.ensures.keeps; stands = c.update_all.ensures.stands; others = c.update_all.ensures.others })

pub invariant_of-self-inside : goal.invariant_of-self-inside
invariant_of-self-inside c =
    let old = c.self.inside.seats.items in
    let items = ap (λ (s : Seating). s.seats) c.self.view_is in
    let raised = subst (λ (l : List Seated). RaisedTo c.args.side c.args.updates.now c.loop-seat.seat-index l c.loop-seat.seat-items) (sym items) c.loop-seat.invariant in
    let len : length c.loop-seat.seat-items ≡ length old = c.loop-seat.auto.seat-items ∙ ap length c.deref_mut-seat-items.ensures.value in
    let same = refilled old c.loop-seat.seat-items len in
    let queries = ap (map (λ (s : Seated). s.query)) same ∙ raised-queries c.args.side c.args.updates.now _ old c.loop-seat.seat-items raised in (
      c.self.inside.deep,
      (
        c.self.inside.least ∙ ap (needed c.self.inside.depth) (sym queries),
        (
          subst (λ (l : List Seated). 0 < length l) (sym same) (omega (arith, len, c.self.inside.some)),
          (subst (λ l. IsTrue (list_all (is_seat c.self.inside.depth) l)) (sym same) (raised-seats c.args.side c.args.updates.now c.self.inside.depth _ old c.loop-seat.seat-items raised c.self.inside.each), tt),
        ),
      ),
    )

pub returns-clause-stands : goal.returns-clause-stands
returns-clause-stands c = λ depth queries blocks stream seen.
    let updates = c.args.updates.now in
    let old = c.self.inside.seats.items in
    let items = ap (λ (s : Seating). s.seats) c.self.view_is in
    let are = subst (AreSeats depth queries blocks stream) (sym c.self.view_is) seen in
    let raised = subst (λ (l : List Seated). RaisedTo c.args.side updates c.loop-seat.seat-index l c.loop-seat.seat-items) (sym items) c.loop-seat.invariant in
    let len : length c.loop-seat.seat-items ≡ length old = c.loop-seat.auto.seat-items ∙ ap length c.deref_mut-seat-items.ensures.value in
    let end : length old ≤ c.loop-seat.seat-index = omega (arith, ap length c.deref_mut-seat-items.ensures.value) in
    let same = refilled old c.loop-seat.seat-items len in
    record {
      levels = are.levels;
      asked = ap (λ (l : List Seated). map (λ (s : Seated). s.query) l) same ∙ raised-queries c.args.side updates _ old c.loop-seat.seat-items raised ∙ are.asked;
      at_blocks = ap (λ (l : List Seated). map (λ (s : Seated). s.block) l) same ∙ raised-blocks c.args.side updates _ old c.loop-seat.seat-items raised ∙ are.at_blocks;
      stand = subst (All (StandsFor depth (stream ++ updates))) (sym same) (raised-stand c.args.side updates _ old c.loop-seat.seat-items depth stream raised end are.stand);
    }

pub returns-then-is_empty-clause-others : goal.returns-then-is_empty-clause-others
returns-then-is_empty-clause-others c = none-left c.args.side c.args.self.now.seats

pub returns-clause-others : goal.returns-clause-others
returns-clause-others c =
    let old = c.self.inside.seats.items in
    let items = ap (λ (s : Seating). s.seats) c.self.view_is in
    let len : length c.loop-seat.seat-items ≡ length old = c.loop-seat.auto.seat-items ∙ ap length c.deref_mut-seat-items.ensures.value in
    let end : length c.args.self.now.seats ≤ c.loop-seat.seat-index = omega (arith, ap length items, ap length c.deref_mut-seat-items.ensures.value) in
    subst (AreLeft c.args.side c.args.self.now.seats) (sym (refilled old c.loop-seat.seat-items len))
    (raised-left c.args.side c.args.updates.now _ _ c.loop-seat.seat-items c.loop-seat.invariant end)
