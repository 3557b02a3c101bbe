use Rattle.sip_ask.proofs.Fooled.{wrong-counted}
use Rattle.sip_ask.proofs.laws.a_wrong_answer_is_counted.Goals as goal

pub returns : goal.returns
returns c = wrong-counted
