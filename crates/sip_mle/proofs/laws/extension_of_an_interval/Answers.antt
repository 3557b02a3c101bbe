use Rattle.sip_mle.proofs.IntervalSums.{interval_is_sum}
use Rattle.sip_mle.proofs.laws.extension_of_an_interval.Goals as goal

pub returns : goal.returns
returns c = interval_is_sum
