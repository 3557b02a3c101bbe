-- The other end holds something else, or the first question has its turn.
use Rattle.std.proofs.Common.{ap, ◌∙◌}
use Rattle.sip_ask.specs.Turns.{held_by}
use Rattle.sip_ask_steps.proofs.Going.{first_turns, step_done}
use Rattle.sip_ask_steps.proofs.machine.SketchAsking.compare.Goals as goal

pub returns-then-is_other-clause-done : goal.returns-then-is_other-clause-done
returns-then-is_other-clause-done c p events is =
    let own = c.held_by-kept.ensures ∙ ap held_by c.tally.ensures in
    let other = c.is_other.ensures.other c.if-is_other.true in
    rw c.go.ensures (step_done p events c.args.self.now c.args.held c.held_by-kept.result is own other)

pub turn-requires : goal.turn-requires
turn-requires c =
    let own = c.held_by-kept.ensures ∙ ap held_by c.tally.ensures in
    let same = c.is_other.ensures.same c.if-is_other.false in
    let (p, events, is) = c.requires.heard in
    record { turns = (p, events, first_turns p events c.args.self.now c.args.held c.held_by-kept.result is own same) }

pub returns-clause-done : goal.returns-clause-done
returns-clause-done c p events is =
    let own = c.held_by-kept.ensures ∙ ap held_by c.tally.ensures in
    let same = c.is_other.ensures.same c.if-is_other.false in
    c.turn.ensures.done p events (first_turns p events c.args.self.now c.args.held c.held_by-kept.result is own same)
