-- What came of the next question came of the first that is left.
use Rattle.std.proofs.Common.{◌≡◌, ◌+◌, ◌≤◌, Bool, get_or, length, ap, subst, ◌∙◌, arith, rules}
use Rattle.std.specs.Prelude.{vec_capacity}
use Rattle.sip_verifier.specs.runs.Askers.{behind}
use Rattle.sip_questions.specs.declared.seat.QuestionSeat.{QuestionSeat}
use Rattle.sip_questions.specs.Sittings.{places_at, remaining_of}
use Rattle.sip_questions.proofs.NextAsked.{next_asks, next_behind, next_left, next_stand, nodes_for, nodes_kept}
use Rattle.sip_questions.proofs.SeatAsks.{can_of}
use Rattle.sip_questions.proofs.asker.QuestionAskerAsker.ask_next.Goals as goal

pub invariant_of-self-inside : goal.invariant_of-self-inside
invariant_of-self-inside g c =
    let less = next_left c.self.inside.version c.self.inside.depth c.self.inside.seats.items c.self.inside.asked c.self.inside.entries.items c.self.inside.is_spent c.args.self.now c.self.view_is c.requires.left in
    let within : c.self.inside.asked + 1 ≤ length c.self.inside.seats.items = omega (arith, less) in (
      within,
      (
        c.self.inside.shallow,
        (
          c.self.inside.can,
          (
            λ k d inside. let room = c.self.inside.places k d inside in omega (arith, room, c.ask_question-asked.ensures.room),
            (nodes_kept c.self.inside.seats.items c.self.inside.space c.ask_question-asked.new.space c.ask_question-asked.ensures.space c.self.inside.nodes, tt),
          ),
        ),
      ),
    )

pub ask_question-asked-requires-clause-can : goal.ask_question-asked-requires-clause-can
ask_question-asked-requires-clause-can g c =
    let less = next_left c.self.inside.version c.self.inside.depth c.self.inside.seats.items c.self.inside.asked c.self.inside.entries.items c.self.inside.is_spent c.args.self.now c.self.view_is c.requires.left in
    let own = c.index-seat.result.now in
    let at : get_or c.self.inside.seats.items c.self.inside.asked own ≡ own = search rules in
    can_of c.self.inside.version c.self.inside.depth c.self.inside.seats.items c.self.inside.asked own less at c.self.inside.can

pub ask_question-asked-requires-clause-places : goal.ask_question-asked-requires-clause-places
ask_question-asked-requires-clause-places g c =
    let less = next_left c.self.inside.version c.self.inside.depth c.self.inside.seats.items c.self.inside.asked c.self.inside.entries.items c.self.inside.is_spent c.args.self.now c.self.view_is c.requires.left in
    let own = c.index-seat.result.now in
    let at : get_or c.self.inside.seats.items c.self.inside.asked own ≡ own = search rules in
    subst (λ (s : QuestionSeat). places_at s ≤ vec_capacity c.self.inside.entries) at (c.self.inside.places c.self.inside.asked own less)

pub ask_question-asked-requires-clause-nodes : goal.ask_question-asked-requires-clause-nodes
ask_question-asked-requires-clause-nodes g c =
    let less = next_left c.self.inside.version c.self.inside.depth c.self.inside.seats.items c.self.inside.asked c.self.inside.entries.items c.self.inside.is_spent c.args.self.now c.self.view_is c.requires.left in
    let own = c.index-seat.result.now in
    let at : get_or c.self.inside.seats.items c.self.inside.asked own ≡ own = search rules in
    nodes_for c.self.inside.space c.self.inside.seats.items c.self.inside.asked own own less at c.self.inside.nodes

pub returns-clause-asks : goal.returns-clause-asks
returns-clause-asks g c =
    let less = next_left c.self.inside.version c.self.inside.depth c.self.inside.seats.items c.self.inside.asked c.self.inside.entries.items c.self.inside.is_spent c.args.self.now c.self.view_is c.requires.left in
    let own = c.index-seat.result.now in
    let at : get_or c.self.inside.seats.items c.self.inside.asked own ≡ own = search rules in
    next_asks c.self.inside.version c.self.inside.depth c.self.inside.seats.items c.self.inside.asked c.self.inside.entries.items c.self.inside.is_spent c.args.self.now c.self.view_is own less own at c.ask_question-asked.new.entries.items c.has_failed-self-inside.result (g.L.Sink.talk c.args.link.now) (g.L.Sink.talk c.ask_question-asked.new.link) c.ask_question-asked.result c.ask_question-asked.ensures.asks

pub returns-clause-stands : goal.returns-clause-stands
returns-clause-stands g c =
    next_stand c.self.inside.version c.self.inside.depth c.self.inside.seats.items c.self.inside.asked c.self.inside.entries.items c.self.inside.is_spent c.args.self.now c.self.view_is c.ask_question-asked.new.entries.items c.has_failed-self-inside.result

pub returns-clause-remaining : goal.returns-clause-remaining
returns-clause-remaining g c =
    next_behind c.self.inside.version c.self.inside.depth c.self.inside.seats.items c.self.inside.asked c.self.inside.entries.items c.self.inside.is_spent c.args.self.now c.self.view_is c.ask_question-asked.new.entries.items c.has_failed-self-inside.result
    ∙ ap (λ (b : Bool). behind b (remaining_of c.args.self.now)) c.has_failed-self-inside.ensures

pub returns-clause-keeps : goal.returns-clause-keeps
returns-clause-keeps g c = rw (← c.self.view_is) c.ask_question-asked.ensures.keeps
