use Rattle.sip_field.proofs.DrawLists as lemmas
use Rattle.sip_field.proofs.laws.draws_leave_the_rest.Goals as goal

pub returns : goal.returns
returns c = lemmas.draws_leave_the_rest
