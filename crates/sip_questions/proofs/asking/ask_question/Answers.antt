-- What came of the question of each kind.
use Rattle.std.proofs.Common.{◌≡◌, ℤ, List, Ok, Err, sym, ap, subst, ◌∙◌, rules, w64, to_z, of_z, FitsSigned}
use Rattle.std.proofs.lemmas.Int.{to_z-of_z}
use Rattle.sip_field.specs.Elements.{m61_number}
use Rattle.sip_vector.specs.declared.update.Entry.{Entry}
use Rattle.sip_verifier.specs.QuerySeats.{Seated}
use Rattle.sip_verifier.specs.runs.Askers.{Asks}
use Rattle.sip_lookup.specs.Lookups.{Looked}
use Rattle.sip_lookup.specs.Sittings.{looked_of}
use Rattle.sip_lookup.specs.declared.answer.LookAnswer.{LookAnswer}
use Rattle.sip_questions.specs.declared.asker.QuestionGiven.{QuestionGiven}
use Rattle.sip_questions.specs.declared.asker.QuestionGiven.TheVariants as givens
use Rattle.sip_questions.specs.declared.question.Question.TheVariants as questions
use Rattle.sip_questions.specs.declared.seat.QuestionSeat.TheVariants as seats
use Rattle.sip_questions.specs.Questions.{Answered, asking, by_large, by_lookup, by_moment, to_large, to_lookup, to_moment}
use Rattle.sip_questions.specs.Sittings.{StandsAt, ask_at, query_given, question_at, stated}
use Rattle.sip_questions.proofs.ByKind.{large_given, large_like, lookup_given, lookup_like, moment_given, moment_like, power_is, query_came, stopped_as}
use Rattle.sip_questions.proofs.SeatAsks.{at_seat}
use Rattle.sip_questions.proofs.asking.ask_question.Goals as goal

pub returns-in-Query-clause-asks : goal.returns-in-Query-clause-asks
returns-in-Query-clause-asks g c = λ stream stands.
    let version = c.args.version in
    let depth = c.args.depth in
    let s : Seated = c.in-Query.seat in
    let stand = subst (StandsAt depth stream) c.in-Query.is stands in
    let shown = c.ask_seat-verdict.new.entries.items in
    let came = query_came version depth stream s.block (g.L.Sink.talk c.args.link.now) (g.L.Sink.talk c.ask_seat-verdict.new.link) shown s.query c.ask_seat-verdict.result (c.ask_seat-verdict.ensures.asks depth stream stand) in
    let given : query_given s.query c.ask_seat-verdict.result ≡ c.query_given.result = ap (λ q. query_given q c.ask_seat-verdict.result) (sym c.query.ensures) ∙ sym c.query_given.ensures in
    at_seat (asking version depth stream) (g.L.Sink.talk c.args.link.now) (g.L.Sink.talk c.ask_seat-verdict.new.link) shown c.args.seat.now (seats.Query s) c.query_given.result c.in-Query.is
    (subst (λ r. Asks (asking version depth stream) (ask_at (seats.Query s)) (g.L.Sink.talk c.args.link.now) (g.L.Sink.talk c.ask_seat-verdict.new.link) (λ (x : QuestionGiven) (answer : Answered). stated shown x ≡ (questions.Query s.query, answer)) r) given came)

pub returns-in-Ok-clause-asks : goal.returns-in-Ok-clause-asks
returns-in-Ok-clause-asks g c = λ stream stands.
    let version = c.args.version in
    let depth = c.args.depth in
    let lookup = c.in-Lookup.lookup in
    let root = c.in-Lookup.root in
    let stand = subst (StandsAt depth stream) c.in-Lookup.is stands in
    let shown = c.ask_look.new.entries.items in
    at_seat (asking version depth stream) (g.L.Sink.talk c.args.link.now) (g.L.Sink.talk c.ask_look.new.link) shown c.args.seat.now (seats.Lookup lookup root) (Ok (givens.Lookup lookup c.in-Ok.answer)) c.in-Lookup.is
    (lookup_given version depth stream root.seat (g.L.Sink.talk c.args.link.now) (g.L.Sink.talk c.ask_look.new.link) shown lookup c.in-Ok.answer (c.in-Ok.ensures.asks stream stand))

pub returns-in-Err-clause-asks : goal.returns-in-Err-clause-asks
returns-in-Err-clause-asks g c = λ stream stands.
    let version = c.args.version in
    let depth = c.args.depth in
    let lookup = c.in-Lookup.lookup in
    let root = c.in-Lookup.root in
    let stand = subst (StandsAt depth stream) c.in-Lookup.is stands in
    let shown = c.ask_look.new.entries.items in
    at_seat (asking version depth stream) (g.L.Sink.talk c.args.link.now) (g.L.Sink.talk c.ask_look.new.link) shown c.args.seat.now (seats.Lookup lookup root) (Err c.in-Err.why) c.in-Lookup.is
    (stopped_as (by_lookup version depth stream) (asking version depth stream) lookup (questions.Lookup lookup) root.seat to_lookup (lookup_like version depth stream root.seat lookup) (g.L.Sink.talk c.args.link.now) (g.L.Sink.talk c.ask_look.new.link)
    (λ (x : LookAnswer) (looked : Looked). looked_of x ≡ looked) (λ (x : QuestionGiven) (answer : Answered). stated shown x ≡ (questions.Lookup lookup, answer)) c.in-Err.why (c.in-Err.ensures.asks stream stand))

pub returns-in-Ok-ask_moment-clause-asks : goal.returns-in-Ok-ask_moment-clause-asks
returns-in-Ok-ask_moment-clause-asks g c = λ stream stands.
    let version = c.args.version in
    let depth = c.args.depth in
    let moment = c.in-Moment.moment in
    let point = c.in-Moment.point in
    let stated_value = c.in-Ok-ask_moment.value in
    let stand = subst (StandsAt depth stream) c.in-Moment.is stands in
    let power = power_is depth stream moment point.seat point.value (m61_number c.value-extension.result) c.value-extension.ensures stand in
    let shown = c.args.entries.now.items in
    let fits : FitsSigned w64 stated_value = search rules in
    let kept : to_z w64 (of_z w64 stated_value) ≡ stated_value = to_z-of_z w64 stated_value fits in
    subst (λ (z : ℤ). Asks (asking version depth stream) (ask_at c.args.seat.now) (g.L.Sink.talk c.args.link.now) (g.L.Sink.talk c.ask_moment.new.link) (λ (x : QuestionGiven) (answer : Answered). stated shown x ≡ (question_at c.args.seat.now, answer)) (Ok (givens.Moment moment z))) (sym kept)
    (at_seat (asking version depth stream) (g.L.Sink.talk c.args.link.now) (g.L.Sink.talk c.ask_moment.new.link) shown c.args.seat.now (seats.Moment moment point) (Ok (givens.Moment moment stated_value)) c.in-Moment.is
    (moment_given version depth stream point.seat (g.L.Sink.talk c.args.link.now) (g.L.Sink.talk c.ask_moment.new.link) shown moment stated_value (c.in-Ok-ask_moment.ensures.asks depth stream power)))

pub returns-in-Err-ask_moment-clause-asks : goal.returns-in-Err-ask_moment-clause-asks
returns-in-Err-ask_moment-clause-asks g c = λ stream stands.
    let version = c.args.version in
    let depth = c.args.depth in
    let moment = c.in-Moment.moment in
    let point = c.in-Moment.point in
    let stand = subst (StandsAt depth stream) c.in-Moment.is stands in
    let power = power_is depth stream moment point.seat point.value (m61_number c.value-extension.result) c.value-extension.ensures stand in
    let shown = c.args.entries.now.items in
    at_seat (asking version depth stream) (g.L.Sink.talk c.args.link.now) (g.L.Sink.talk c.ask_moment.new.link) shown c.args.seat.now (seats.Moment moment point) (Err c.in-Err-ask_moment.why) c.in-Moment.is
    (stopped_as (by_moment version depth stream) (asking version depth stream) moment (questions.Moment moment) point.seat to_moment (moment_like version depth stream point.seat moment) (g.L.Sink.talk c.args.link.now) (g.L.Sink.talk c.ask_moment.new.link)
    (λ (x : ℤ) (said : ℤ). x ≡ said) (λ (x : QuestionGiven) (answer : Answered). stated shown x ≡ (questions.Moment moment, answer)) c.in-Err-ask_moment.why (c.in-Err-ask_moment.ensures.asks depth stream power))

pub returns-in-Ok-ask_large-clause-asks : goal.returns-in-Ok-ask_large-clause-asks
returns-in-Ok-ask_large-clause-asks g c = λ stream stands.
    let version = c.args.version in
    let depth = c.args.depth in
    let large = c.in-Large.large in
    let root = c.in-Large.root in
    let stand = subst (StandsAt depth stream) c.in-Large.is stands in
    let shown = c.ask_large.new.entries.items in
    at_seat (asking version depth stream) (g.L.Sink.talk c.args.link.now) (g.L.Sink.talk c.ask_large.new.link) shown c.args.seat.now (seats.Large large root) (Ok (givens.Large large)) c.in-Large.is
    (large_given version depth stream root.seat (g.L.Sink.talk c.args.link.now) (g.L.Sink.talk c.ask_large.new.link) shown large (c.in-Ok-ask_large.ensures.asks depth stream stand))

pub returns-in-Err-ask_large-clause-asks : goal.returns-in-Err-ask_large-clause-asks
returns-in-Err-ask_large-clause-asks g c = λ stream stands.
    let version = c.args.version in
    let depth = c.args.depth in
    let large = c.in-Large.large in
    let root = c.in-Large.root in
    let stand = subst (StandsAt depth stream) c.in-Large.is stands in
    let shown = c.ask_large.new.entries.items in
    at_seat (asking version depth stream) (g.L.Sink.talk c.args.link.now) (g.L.Sink.talk c.ask_large.new.link) shown c.args.seat.now (seats.Large large root) (Err c.in-Err-ask_large.why) c.in-Large.is
    (stopped_as (by_large version depth stream) (asking version depth stream) large (questions.Large large) root.seat to_large (large_like version depth stream root.seat large) (g.L.Sink.talk c.args.link.now) (g.L.Sink.talk c.ask_large.new.link)
    (λ (x : Unit {0}) (answer : List Entry). shown ≡ answer) (λ (x : QuestionGiven) (answer : Answered). stated shown x ≡ (questions.Large large, answer)) c.in-Err-ask_large.why (c.in-Err-ask_large.ensures.asks depth stream stand))
