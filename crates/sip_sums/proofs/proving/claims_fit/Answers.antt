use Rattle.sip_sums.proofs.Totals.{claim-fits}
use Rattle.sip_sums.proofs.proving.claims_fit.Goals as goal

pub returns : goal.returns
returns c = claim-fits
