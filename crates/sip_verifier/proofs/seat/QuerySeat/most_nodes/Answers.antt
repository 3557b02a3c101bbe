-- A share of a total is at least 1.
use Rattle.std.proofs.Common.{◌∙◌, sym, ap, subst, to_z, of_z, w64}
use Rattle.sip_vector.specs.declared.query.Query.{Query}
use Rattle.sip_vector.specs.Answers.{Fits}
use Rattle.sip_verifier.specs.QuerySeats.{Seated}
use Rattle.sip_verifier.proofs.WideSeats.{share_some}
use Rattle.sip_verifier.proofs.seat.QuerySeat.most_nodes.Goals as goal

pub nodes_of-requires-in-Share-AugRoot-clause-some :
    goal.nodes_of-requires-in-Share-AugRoot-clause-some
nodes_of-requires-in-Share-AugRoot-clause-some c =
    let (depth, fits) = c.requires.fits in
    let is = sym (ap (λ (s : Seated). s.query) c.self.view_is) ∙ c.in-Share-AugRoot.is-0 in
    let own = subst (λ (q : Query). Fits depth q) is fits in
    share_some c.in-Share-AugRoot.num c.in-Share-AugRoot.den (to_z w64 (of_z w64 c.total-total.result)) own.0 own.1 c.share_of.ensures
