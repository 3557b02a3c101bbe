use Rattle.sip_ask.proofs.AskKept.{ask-keeps}
use Rattle.sip_ask.proofs.laws.asks_keep_their_promises.Goals as goal

pub returns : goal.returns
returns c = ask-keeps c.runs_keep_their_promises.ensures
