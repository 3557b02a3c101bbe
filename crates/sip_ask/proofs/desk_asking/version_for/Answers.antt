-- A query is one more of them, and another question is none.
use Rattle.std.proofs.Common.{List, [], ◌∷◌, ◌++◌, ap, ◌∙◌, arith}
use Rattle.sip_vector.specs.declared.query.Query.{Query}
use Rattle.sip_ask.proofs.Among.{among-large, among-other, among-query}
use Rattle.sip_ask.proofs.desk_asking.version_for.Goals.{in-Large, in-Query, in_default}
use Rattle.sip_ask.proofs.desk_asking.version_for.Goals as goal

pub loop-question-preserved : goal.loop-question-preserved
loop-question-preserved c = elim c.match-question.branch [
  | in-Query w ↦ rw w.queries-is (record {
    few = omega (arith, w.push.ensures.len, c.loop-question.invariant.few);
    among = among-query c.args.questions.now c.loop-question.question-index _ w.in-Query.query c.loop-question.queries.items w.push.new.self.items c.loop-question-test.true w.in-Query.is w.push.ensures.items c.loop-question.invariant.among;
  })
  | in-Large w ↦ rw w.queries-is (record {
    few = omega (arith, w.push-in-Large.ensures.len, c.loop-question.invariant.few);
    among = among-large c.args.questions.now c.loop-question.question-index _ w.in-Large.large c.loop-question.queries.items w.push-in-Large.new.self.items c.loop-question-test.true w.in-Large.is (w.push-in-Large.ensures.items ∙ ap (λ (q : Query). c.loop-question.queries.items ++ q ∷ []) w.query.ensures) c.loop-question.invariant.among;
  })
  | in_default w ↦ rw w.queries-is (record {
    few = omega (arith, c.loop-question.invariant.few);
    among = among-other c.args.questions.now c.loop-question.question-index _ c.loop-question.queries.items c.loop-question-test.true w.in_default.not-Query w.in_default.not-Large c.loop-question.invariant.among;
  })
]
