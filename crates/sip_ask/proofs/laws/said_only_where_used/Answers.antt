use Rattle.sip_ask.proofs.Saying.{said-used-behind}
use Rattle.sip_ask.proofs.laws.said_only_where_used.Goals as goal

pub returns : goal.returns
returns c = λ start talk opened behind s turns count place content is link are last says held.
    said-used-behind start place content talk opened s turns behind count is are last says held
