-- A seat that was found is one more that can be asked.
use Rattle.std.proofs.Common.{arith}
use Rattle.std.proofs.lemmas.List.Elements.{All-push, All-same}
use Rattle.sip_questions.specs.Sittings.{CanAsk}
use Rattle.sip_question_tests.proofs.asking.seats_of.Goals as goal

pub loop-question-preserved : goal.loop-question-preserved
loop-question-preserved c =
    let Can = CanAsk c.args.version c.args.depth in
    record {
      few = omega (arith, c.in_ok-push.ensures.len, c.loop-question.invariant.few);
      can = All-same Can c.push.new.self.items _ c.in_ok-push.ensures.items (All-push Can c.loop-question.seats.items c.in-Some.seat c.loop-question.invariant.can c.in-Some.ensures);
    }
