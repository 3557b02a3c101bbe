-- What is gathered are the updates of the side.
use Rattle.std.proofs.Common.{◌≡◌, ◌<◌, ◌^◌, ◌++◌, IsTrue, List, All, sym, ap, ◌∙◌, subst}
use Rattle.std.proofs.lemmas.List.Elements.{All-filter}
use Rattle.sip_vector.specs.declared.update.Update.{Update}
use Rattle.sip_vector.specs.Streams.{same_side, of_side}
use Rattle.sip_verifier.specs.QuerySeats.{HasRoom, Seated, is_heavy_of}
use Rattle.sip_verifier.specs.Seats.{AreSeats}
use Rattle.sip_verifier.proofs.Seating.{all_own, of_own}
use Rattle.sip_verifier.proofs.SeatsRaised.{none-left, over-stand}
use Rattle.sip_verifier.proofs.seats.Seats.raise_side.Goals as goal

pub raise-requires-clause-items : goal.raise-requires-clause-items
raise-requires-clause-items c =
    let Fits : Update → Type 0 = λ u. u.item < 2 ^ c.args.self.now.depth in
    subst (All Fits) (sym c.take_side-count.ensures.taken)
    (All-filter (λ (u : Update). same_side u.side c.args.side) Fits c.args.updates.now c.requires.items)

pub raise-requires-clause-sides : goal.raise-requires-clause-sides
raise-requires-clause-sides c =
    subst (All (λ (u : Update). u.side ≡ c.args.side)) (sym c.take_side-count.ensures.taken)
    (all_own c.args.updates.now c.args.side)

pub returns-clause-stands : goal.returns-clause-stands
returns-clause-stands c = λ depth queries blocks stream are.
    subst (λ (l : List Update). AreSeats depth queries blocks (stream ++ l) c.raise.new.self)
    c.take_side-count.ensures.taken (c.raise.ensures.stands depth queries blocks stream are)

pub raise-requires-clause-room : goal.raise-requires-clause-room
raise-requires-clause-room c =
    let side = c.args.side in
    let own = ap (λ (l : List Update). of_side l side) c.take_side-count.ensures.taken ∙ of_own (of_side c.args.updates.now side) side (all_own c.args.updates.now side) in
    subst (λ (l : List Update). All (λ (s : Seated). IsTrue (is_heavy_of s.query side) → HasRoom s.running l) c.args.self.now.seats) (sym own) c.requires.room

pub returns-then-pass_over-clause-stands : goal.returns-then-pass_over-clause-stands
returns-then-pass_over-clause-stands c = λ depth queries blocks stream are. record {
  levels = are.levels;
  asked = are.asked;
  at_blocks = are.at_blocks;
  stand = over-stand c.args.side (of_side c.args.updates.now c.args.side) c.args.self.now.seats depth stream (c.pass_over.ensures c.if-pass_over.true) (all_own c.args.updates.now c.args.side) are.stand;
}

pub returns-then-pass_over-clause-others : goal.returns-then-pass_over-clause-others
returns-then-pass_over-clause-others c = none-left c.args.side c.args.self.now.seats
