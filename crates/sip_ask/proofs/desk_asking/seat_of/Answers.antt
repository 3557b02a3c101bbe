-- The question is asked at the block of the seat, by its numbers, which refuse nothing.
use Rattle.std.proofs.Common.{◌≡◌, ℕ, List, get_or, sym, ap, subst, ◌∙◌}
use Rattle.sip_vector.specs.declared.tally.Tally.{Tally}
use Rattle.sip_verifier.specs.QuerySeats.{RunsOn}
use Rattle.sip_questions.specs.Sittings as sittings
use Rattle.sip_questions.specs.declared.question.Question.{Question}
use Rattle.sip_sketch.specs.Seats.{beside, numbers_kept, side_of}
use Rattle.sip_sketch.specs.Sketches.{SeatValues}
use Rattle.sip_ask.specs.Choosing.{weight_told}
use Rattle.sip_ask.specs.Turns.{block_at}
use Rattle.sip_ask.proofs.Chosen.{block-at}
use Rattle.sip_ask.proofs.Narrow.{seat-free}
use Rattle.sip_ask.proofs.Served.{stands_at}
use Rattle.sip_ask.proofs.desk_asking.seat_of.Goals as goal

pub returns-clause-asks : goal.returns-clause-asks
returns-clause-asks c =
    let seats = c.args.sketch.now.seats in
    let own = c.index-seats-place.result in
    let at : own ≡ get_or seats c.args.place own = c.index-seats-place.is ∙ ap (λ (l : List SeatValues). get_or l c.args.place own) c.seats.ensures.seats in
    let block : sittings.block_at c.of.result ≡ block_at c.args.place seats =
    c.of.ensures.block ∙ c.running.ensures.block ∙ ap (λ (s : SeatValues). s.block) at ∙ sym (block-at seats c.args.place own c.requires.serves.inside) in
    λ i. (c.of.ensures.question i, block i)

pub returns-clause-stands : goal.returns-clause-stands
returns-clause-stands c = λ stream stands.
    let s = c.args.sketch.now in
    let own = c.index-seats-place.result in
    let at : own ≡ get_or s.seats c.args.place own = c.index-seats-place.is ∙ ap (λ (l : List SeatValues). get_or l c.args.place own) c.seats.ensures.seats in
    let w = c.weight_of-weight.result in
    let told = c.weight_of-weight.ensures ∙ ap (λ (t : Tally). weight_told t c.side.result) c.tally.ensures
    ∙ ap (weight_told s.tally) (c.side.ensures ∙ ap side_of c.kind.ensures ∙ ap (λ (x : SeatValues). side_of x.kind) at) in
    let block = c.of.ensures.block ∙ c.running.ensures.block ∙ ap (λ (x : SeatValues). x.block) at in
    let numbers = c.of.ensures.running ∙ c.running.ensures.numbers ∙ ap (λ (x : SeatValues). beside w (numbers_kept x.kind x.first x.second)) at in
    let seated = sittings.block_at c.of.result in
    let running = sittings.running_at c.of.result in
    subst (λ (q : Question). RunsOn s.depth stream (sittings.query_like q) seated running) (sym c.of.ensures.question)
    (stands_at s c.args.question c.args.place own w seated running c.requires.serves told block numbers stream stands)

pub returns-clause-free : goal.returns-clause-free
returns-clause-free c = λ number.
    let s = c.args.sketch.now in
    let own = c.index-seats-place.result in
    let at : own ≡ get_or s.seats c.args.place own =
    c.index-seats-place.is ∙ ap (λ (l : List SeatValues). get_or l c.args.place own) c.seats.ensures.seats in
    let told = c.weight_of-weight.ensures ∙ ap (λ (t : Tally). weight_told t c.side.result) c.tally.ensures
    ∙ ap (weight_told s.tally) (c.side.ensures ∙ ap side_of c.kind.ensures) in
    seat-free s c.requires.is c.args.question c.args.place own c.of.result number at c.requires.serves c.requires.tested c.of.ensures.question
    (c.of.ensures.running ∙ c.running.ensures.numbers ∙ ap (λ (w : ℕ). beside w (numbers_kept own.kind own.first own.second)) told)
