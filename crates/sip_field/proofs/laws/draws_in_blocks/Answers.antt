use Rattle.sip_field.proofs.DrawLists as lemmas
use Rattle.sip_field.proofs.laws.draws_in_blocks.Goals as goal

pub returns : goal.returns
returns c = lemmas.draws_in_blocks
