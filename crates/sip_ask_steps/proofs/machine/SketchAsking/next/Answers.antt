-- The answer was read.
use Rattle.std.proofs.Common.{◌≡◌, true, sym, ap, ◌∙◌}
use Rattle.std.specs.Prelude.{is_some}
use Rattle.sip_ask_steps.specs.Steps.{answer_at}
use Rattle.sip_ask_steps.proofs.Going.{answer_wants, answered_turns}
use Rattle.sip_ask_steps.proofs.machine.SketchAsking.next.Goals as goal

pub turn-requires : goal.turn-requires
turn-requires c =
    let (p, events, is) = c.requires.begun in
    let m = c.args.self.now in
    let some : is_some (answer_at m.number m.step) ≡ true = ap is_some (sym c.answer.ensures.is) ∙ sym c.is_some.ensures ∙ c.if-is_some.true in
    record { turns = (p, events, answered_turns p events m is (answer_wants m.number m.step some)) }

pub returns-then-is_some-clause-done : goal.returns-then-is_some-clause-done
returns-then-is_some-clause-done c p events is =
    let m = c.args.self.now in
    let some : is_some (answer_at m.number m.step) ≡ true = ap is_some (sym c.answer.ensures.is) ∙ sym c.is_some.ensures ∙ c.if-is_some.true in
    c.turn.ensures.done p events (answered_turns p events m is (answer_wants m.number m.step some))

pub returns-then-is_some-clause-begun : goal.returns-then-is_some-clause-begun
returns-then-is_some-clause-begun c = let (p, events, is) = c.requires.begun in (p, events, returns-then-is_some-clause-done c p events is)
