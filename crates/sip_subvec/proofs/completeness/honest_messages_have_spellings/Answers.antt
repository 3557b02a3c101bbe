use Rattle.sip_subvec.proofs.HonestSpellings.{messages_fit}
use Rattle.sip_subvec.proofs.completeness.honest_messages_have_spellings.Goals as goal

pub returns : goal.returns
returns c = messages_fit
