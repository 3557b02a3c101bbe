use Rattle.sip_ask.proofs.Tested.{chosen-counted}
use Rattle.sip_ask.proofs.laws.what_is_asked_can_be_counted.Goals as goal

pub returns : goal.returns
returns c = chosen-counted
