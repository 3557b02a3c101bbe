use Rattle.sip_sums.proofs.HonestSums.{messages_fit}
use Rattle.sip_sums.proofs.completeness.honest_messages_have_spellings.Goals as goal

pub returns : goal.returns
returns c = messages_fit
