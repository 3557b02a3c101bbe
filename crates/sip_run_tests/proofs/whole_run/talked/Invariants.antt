-- The helper's talk is under way, or has ended, and the rest is to be asked.
use Rattle.std.proofs.Common.{not}
use Rattle.sip_questions.specs.Serving.{question_rules}
use Rattle.sip_questions.specs.inside.Keeping.{questions_left}
use Rattle.sip_steps.specs.Served.{HasBegun}
use Rattle.sip_run_tests.specs.Left.{AreLeft}
use Rattle.sip_run_tests.proofs.whole_run.talked.Given as goal

abbrev pub invariant-loop-question : goal.invariant-loop-question
invariant-loop-question l = record {
  serving : HasBegun question_rules questions_left (λ s. not s.helper.spent) l.serving;
  left : AreLeft l.to_ask;
}
