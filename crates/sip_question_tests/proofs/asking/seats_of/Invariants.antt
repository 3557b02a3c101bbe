-- There are no more seats than questions so far, and each can be asked.
use Rattle.std.proofs.Common.{◌≤◌, length}
use Rattle.std.specs.Prelude.{All}
use Rattle.sip_questions.specs.Sittings.{CanAsk}
use Rattle.sip_question_tests.proofs.asking.seats_of.Given as goal

abbrev pub invariant-loop-question : goal.invariant-loop-question
invariant-loop-question l = record {
  few : length l.seats.items ≤ l.question-index;
  can : All (CanAsk l.version l.depth) l.seats.items;
}
