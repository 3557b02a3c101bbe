-- The queries among the questions so far, and behind them those among the others.
use Rattle.std.proofs.Common.{◌≡◌, ◌≤◌, ◌++◌, drop, length}
use Rattle.sip_questions.specs.Questions.{queries_among}
use Rattle.sip_ask.proofs.desk_asking.version_for.Given as goal

abbrev pub invariant-loop-question : goal.invariant-loop-question
invariant-loop-question l = record {
  few : length l.queries.items ≤ l.question-index;
  among : l.queries.items ++ queries_among (drop l.question-index l.questions) ≡ queries_among l.questions;
}
