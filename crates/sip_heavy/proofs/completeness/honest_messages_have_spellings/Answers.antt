use Rattle.sip_heavy.proofs.HonestSpellings.{messages_fit}
use Rattle.sip_heavy.proofs.completeness.honest_messages_have_spellings.Goals as goal

pub returns : goal.returns
returns c = λ version p depth t n numbers can revealed. messages_fit version p depth n numbers can t revealed
