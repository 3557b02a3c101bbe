-- One more question adds its query, where it is one.
use Rattle.std.proofs.Common.{rules, ◌≡◌, ◌≤◌, ◌<◌, [], ◌∷◌, ◌++◌, length, take, ap, sym, ◌∙◌, append-nil, arith}
use Rattle.std.proofs.lemmas.List.{length-take-le}
use Rattle.sip_above.specs.Questions.{query_of}
use Rattle.sip_questions.specs.Questions.{queries_among}
use Rattle.sip_runs.proofs.Among.{among_few, among_more}
use Rattle.sip_runs.proofs.asked.queries_among.Goals as goal
use Rattle.sip_runs.proofs.asked.queries_among.Goals.{in-Query, in-Large, in-Lookup, in-Moment}

pub push-requires : goal.push-requires
push-requires c =
    let qs = c.args.questions.now in
    let i = c.loop-question.question-index in
    let lt : i < length qs = c.loop-question-test.true in
    let few : length c.loop-question.queries.items ≤ i = omega (arith, ap length c.loop-question.invariant, among_few (take i qs), length-take-le i qs (omega (arith, lt))) in
    (omega arith, omega (arith, few, lt, c.requires))

pub push-requires-in-Large : goal.push-requires-in-Large
push-requires-in-Large c =
    let qs = c.args.questions.now in
    let i = c.loop-question.question-index in
    let lt : i < length qs = c.loop-question-test.true in
    let few : length c.loop-question.queries.items ≤ i = omega (arith, ap length c.loop-question.invariant, among_few (take i qs), length-take-le i qs (omega (arith, lt))) in
    (omega arith, omega (arith, few, lt, c.requires))

pub loop-question-preserved : goal.loop-question-preserved
loop-question-preserved c =
    let qs = c.args.questions.now in
    let i = c.loop-question.question-index in
    elim c.match-question.branch [
      | in-Query w ↦
          let came : c.match-question.queries.items ≡ c.loop-question.queries.items ++ w.in-Query.query ∷ [] = search rules in
          came ∙ ap (λ l. l ++ w.in-Query.query ∷ []) c.loop-question.invariant
          ∙ sym (among_more qs i _ c.loop-question-test.true ∙ ap (λ q. queries_among (take i qs) ++ queries_among (q ∷ [])) w.in-Query.is)
      | in-Lookup w ↦
          let came : c.match-question.queries.items ≡ c.loop-question.queries.items = search rules in
          came ∙ c.loop-question.invariant ∙ sym (append-nil (queries_among (take i qs)))
          ∙ sym (among_more qs i _ c.loop-question-test.true ∙ ap (λ q. queries_among (take i qs) ++ queries_among (q ∷ [])) w.in-Lookup.is)
      | in-Moment w ↦
          let came : c.match-question.queries.items ≡ c.loop-question.queries.items = search rules in
          came ∙ c.loop-question.invariant ∙ sym (append-nil (queries_among (take i qs)))
          ∙ sym (among_more qs i _ c.loop-question-test.true ∙ ap (λ q. queries_among (take i qs) ++ queries_among (q ∷ [])) w.in-Moment.is)
      | in-Large w ↦
          let came : c.match-question.queries.items ≡ c.loop-question.queries.items ++ query_of w.in-Large.large ∷ [] = search rules in
          came ∙ ap (λ l. l ++ query_of w.in-Large.large ∷ []) c.loop-question.invariant
          ∙ sym (among_more qs i _ c.loop-question-test.true ∙ ap (λ q. queries_among (take i qs) ++ queries_among (q ∷ [])) w.in-Large.is)
    ]
