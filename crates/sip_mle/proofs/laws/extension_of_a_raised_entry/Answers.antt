use Rattle.sip_mle.proofs.Weighing.{ext_raised}
use Rattle.sip_mle.proofs.laws.extension_of_a_raised_entry.Goals as goal

pub returns : goal.returns
returns c = ext_raised
