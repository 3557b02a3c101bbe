use Rattle.std.proofs.Common.{◌≡◌, true, false, ◌+◌, sym, refl, subst, ◌∙◌, arith}
use Rattle.sip_keeping.specs.AskWords.{IsQuestionWord}
use Rattle.sip_keeping.specs.inside.AskSoFar.{StopsInQuestions}
use Rattle.sip_keeping.proofs.AskRead.{questions_all, questions_to_more, stops_behind}
use Rattle.sip_keeping.proofs.Refused.{got, there}
use Rattle.sip_keeping.proofs.ask_words.read_questions.Goals as goal

pub loop-number-preserved : goal.loop-number-preserved
loop-number-preserved c =
    let words = c.args.words.now in
    let read = got words c.loop-number.number c.in-Some.word c.in-Some.ensures in
    let question = c.in-Some-read_question.question in
    questions_to_more words c.args.first c.loop-number.number c.loop-number.asked.items _ question c.loop-number.invariant read.0 (subst (IsQuestionWord question) (sym read.1) c.in-Some-read_question.ensures) c.push.ensures.items

pub returns-then-is_some-clause-refused : goal.returns-then-is_some-clause-refused
returns-then-is_some-clause-refused c =
    let words = c.args.words.now in
    let more = there words (c.args.first + 16) c.get-2.result true c.get-2.ensures (sym c.is_some.ensures ∙ c.if-is_some.true) in
    let last : c.args.first + 16 ≡ c.loop-number.number = omega arith in
    subst (λ n. StopsInQuestions words c.args.first n) (sym last) (stops_behind words c.args.first c.loop-number.number c.loop-number.asked.items c.loop-number.invariant last (let m = more.0 refl in omega arith))

pub returns-clause-questions : goal.returns-clause-questions
returns-clause-questions c =
    let words = c.args.words.now in
    let more = there words (c.args.first + 16) c.get-2.result false c.get-2.ensures (sym c.is_some.ensures ∙ c.if-is_some.false) in
    let few = more.1 refl in
    let count = c.loop-number.invariant.count in
    (questions_all words c.args.first c.loop-number.number c.loop-number.asked.items c.loop-number.invariant (omega arith), omega arith, omega arith)
