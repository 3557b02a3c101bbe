-- The queries among the questions so far.
use Rattle.std.proofs.Common.{◌≡◌, take}
use Rattle.sip_questions.specs.Questions.{queries_among}
use Rattle.sip_runs.proofs.asked.queries_among.Given as goal

abbrev pub invariant-loop-question : goal.invariant-loop-question
invariant-loop-question l = l.queries.items ≡ queries_among (take l.question-index l.questions)
