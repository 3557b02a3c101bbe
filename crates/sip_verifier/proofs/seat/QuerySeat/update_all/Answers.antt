-- Updates that do not concern the query leave its running numbers.
use Rattle.std.proofs.Common.{◌≡◌, false, subst, sym, ap, ◌∙◌}
use Rattle.sip_vector.specs.declared.query.Query.{Query}
use Rattle.sip_verifier.specs.QuerySeats.{Seated, StandsFor, concerns}
use Rattle.sip_verifier.proofs.Seating.{runs_on}
use Rattle.sip_verifier.proofs.seat.QuerySeat.update_all.Goals as goal

pub returns-then-concerns-clause-stands : goal.returns-then-concerns-clause-stands
returns-then-concerns-clause-stands c = λ depth stream stands.
    let own = subst (StandsFor depth stream) (sym c.self.view_is) stands in
    (c.update_all.ensures.runs depth stream c.self.inside.query (sym c.concerns.ensures ∙ c.if-concerns.true) (record { runs = own })).runs

pub returns-else-concerns-clause-stands : goal.returns-else-concerns-clause-stands
returns-else-concerns-clause-stands c = λ depth stream stands.
    let seat = c.args.self.now in
    let asked = ap (λ (s : Seated). s.query) c.self.view_is in
    let other : concerns seat.query c.args.side ≡ false = ap (λ (q : Query). concerns q c.args.side) (sym asked) ∙ sym c.concerns.ensures ∙ c.if-concerns.false in
    runs_on depth stream c.args.updates.now seat.block c.args.side seat.query seat.running c.requires.sides other stands
