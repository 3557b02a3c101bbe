-- The helper's talk is under way, or has ended.
use Rattle.std.proofs.Common.{not}
use Rattle.sip_questions.specs.Serving.{question_rules}
use Rattle.sip_questions.specs.inside.Keeping.{questions_left}
use Rattle.sip_steps.specs.Served.{HasBegun}
use Rattle.sip_run_tests.proofs.whole_run.pass_on.Given as goal

abbrev pub invariant-loop-turn : goal.invariant-loop-turn
invariant-loop-turn l = HasBegun question_rules questions_left (λ s. not s.helper.spent) l.serving
