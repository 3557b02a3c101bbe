-- A share of a total is at least 1.
use Rattle.std.proofs.Common.{subst, to_z, of_z, w64}
use Rattle.sip_vector.specs.declared.query.Query.{Query}
use Rattle.sip_vector.specs.Answers.{Fits}
use Rattle.sip_verifier.proofs.WideSeats.{share_some}
use Rattle.sip_runs.proofs.seat.is_too_wide.Goals as goal

pub is_wide-requires-in-Share-AugRoot-clause-some : goal.is_wide-requires-in-Share-AugRoot-clause-some
is_wide-requires-in-Share-AugRoot-clause-some c =
    let (depth, fits) = c.requires.fits in
    let own = subst (λ (q : Query). Fits depth q) c.in-Share-AugRoot.is-0 fits in
    share_some c.in-Share-AugRoot.num c.in-Share-AugRoot.den (to_z w64 (of_z w64 c.total-total.result)) own.0 own.1 c.share_of.ensures
