use Rattle.sip_verifier.proofs.CountedQuestions.{question_counts}
use Rattle.sip_verifier.proofs.counting.accepted_questions_are_counted.Goals as goal

pub returns : goal.returns
returns c = λ version depth stream t written fits legal accepts. question_counts version depth stream t.query t.block t.replies written fits legal accepts
