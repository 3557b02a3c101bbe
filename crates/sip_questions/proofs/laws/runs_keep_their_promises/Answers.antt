use Rattle.sip_questions.proofs.PromisedRuns.{promised}
use Rattle.sip_questions.proofs.laws.runs_keep_their_promises.Goals as goal

pub returns : goal.returns
returns c = λ r x before now status can ended. promised r x can before now status ended
