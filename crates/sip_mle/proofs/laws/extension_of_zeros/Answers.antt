use Rattle.sip_mle.proofs.Weighing.{ext_of_zeros}
use Rattle.sip_mle.proofs.laws.extension_of_zeros.Goals as goal

pub returns : goal.returns
returns c = ext_of_zeros
