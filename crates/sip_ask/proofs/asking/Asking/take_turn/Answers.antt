-- What came of a question that takes a seat, and of one that takes none.
use Rattle.std.proofs.Common.{refl}
use Rattle.sip_questions.specs.Questions.{asking}
use Rattle.sip_ask.proofs.TurnsTaken.{lined_came}
use Rattle.sip_ask.proofs.asking.Asking.take_turn.Goals as goal

pub returns-in-Some-clause-came : goal.returns-in-Some-clause-came
returns-in-Some-clause-came g c = λ stream stands.
    let next = rw c.in-Some.is at c.requires.next in
    rw c.in-Some.is (c.ask_on.ensures.came stream c.args.question.now stands next.1)

pub returns-in-None-clause-came : goal.returns-in-None-clause-came
returns-in-None-clause-came g c = λ stream stands.
    let a = c.args.self.now.asker in
    rw c.in-None.is (lined_came (asking a.version a.depth stream) c.args.self.now.sketch c.args.number c.args.question.now _ _ _ c.say_none.result (λ query. refl) (λ large. refl) c.say_none.ensures.says c.say_none.ensures.stops)
