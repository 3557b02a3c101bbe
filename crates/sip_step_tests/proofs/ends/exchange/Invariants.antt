-- Both ends are under way.
use Rattle.std.proofs.Common.{not}
use Rattle.sip_questions.specs.Serving.{question_rules}
use Rattle.sip_questions.specs.inside.Keeping.{questions_left}
use Rattle.sip_steps.specs.Questioned.{HasBegun as HasBegunQuestion}
use Rattle.sip_steps.specs.Served.{HasBegun}
use Rattle.sip_step_tests.proofs.ends.exchange.Given as goal

abbrev pub invariant-loop-turn : goal.invariant-loop-turn
invariant-loop-turn l = record {
  asking : HasBegunQuestion l.asking;
  serving : HasBegun question_rules questions_left (λ s. not s.helper.spent) l.serving;
}
