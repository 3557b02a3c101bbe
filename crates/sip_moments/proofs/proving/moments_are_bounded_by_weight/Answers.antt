use Rattle.sip_moments.proofs.PowerSums.{moment-light}
use Rattle.sip_moments.proofs.proving.moments_are_bounded_by_weight.Goals as goal

pub returns : goal.returns
returns c = moment-light
