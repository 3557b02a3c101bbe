use Rattle.sip_ask.proofs.AskRuns.{ask-run}
use Rattle.sip_ask.proofs.laws.an_ask_is_a_run.Goals as goal

pub returns : goal.returns
returns c = λ asked start talk new blank full status a. ask-run asked start talk new blank full status a
