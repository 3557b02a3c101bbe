-- What a question of any kind waits for is what whoever asks over a link waits for.
use Rattle.sip_steps.proofs.Questionings.{question_due}
use Rattle.sip_steps.proofs.laws.questions_wait.Goals as goal

pub returns : goal.returns
returns c q stream events a of is hears = question_due q stream events of a is hears
