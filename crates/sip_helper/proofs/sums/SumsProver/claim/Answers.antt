-- A claim that fits a frame has a spelling.
use Rattle.std.proofs.Common.{FitsSigned, rules, w64}
use Rattle.sip_helper.proofs.SumReplies.{claim_has_room}
use Rattle.sip_helper.proofs.sums.SumsProver.claim.Goals as goal

pub returns-clause-fits : goal.returns-clause-fits
returns-clause-fits c = λ version.
    let range : FitsSigned w64 c.claim.result = search rules in
    claim_has_room version c.claim.result range c.claim.ensures.fits
