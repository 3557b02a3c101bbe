use Rattle.sip_wire.proofs.Longest.{claim_fits, claim_from_fits}
use Rattle.sip_wire.proofs.laws.claims_that_fit.Goals as goal

pub returns : goal.returns
returns c = λ version value range. (claim_from_fits version value range, claim_fits version value range)
