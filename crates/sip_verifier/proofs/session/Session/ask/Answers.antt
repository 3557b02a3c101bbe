use Rattle.std.proofs.Common.{◌≡◌, ℕ, List, ◌∷◌, ◌∙◌, drop, get_or, length, take, subst, sym, ap, rules}
use Rattle.std.proofs.lemmas.List.{take_at}
use Rattle.sip_vector.specs.Answers.{Fits}
use Rattle.sip_vector.specs.declared.update.Entry.{Entry}
use Rattle.sip_verifier.specs.inside.Judging.{found_in}
use Rattle.sip_verifier.specs.QuerySeats.{Seated, StandsFor}
use Rattle.sip_verifier.specs.Sittings.{Sitting}
use Rattle.sip_verifier.proofs.AnswersCounted.{answers_count, first_left, left_fits}
use Rattle.sip_verifier.proofs.SeatLevels.{seat_levels}
use Rattle.sip_verifier.proofs.ShortTalks.{asks_short}
use Rattle.sip_verifier.proofs.session.Session.ask.Goals as goal

pub returns-clause-asks : goal.returns-clause-asks
returns-clause-asks g c = λ stream query seat next.
    let places = c.ask_by_kind-asked.new.entries in
    let size : length places ≡ c.self.inside.entries.len = search rules in
    let whole = take_at places (drop (length places) c.self.inside.entries.items) c.self.inside.entries.len size in
    let left : drop c.self.inside.asked c.self.inside.seats.seats ≡ seat ∷ next.more = ap (λ (s : Sitting). s.left) c.self.view_is ∙ next.first in
    let same : c.index-seats-self.result ≡ seat =
    c.index-seats-self.is ∙ ap (λ (l : List Seated). get_or l c.self.inside.asked c.index-seats-self.result) c.all-seats.ensures.seats
    ∙ first_left c.self.inside.asked c.self.inside.seats.seats seat c.index-seats-self.result next.more left in
    let count : c.len.result ≡ length places = search rules in
    let found = c.found_in-self-inside.ensures ∙ ap (λ (n : ℕ). found_in n c.ask_by_kind-asked.result) count in
    let shown = ap (λ (l : List Entry). take c.found_in-self-inside.result l) whole ∙ ap (λ (n : ℕ). take n places) found in
    let version : c.args.self.now.version ≡ c.self.inside.version = sym (ap (λ (s : Sitting). s.version) c.self.view_is) in
    rw (shown, c.verdict_of-verdict.ensures, version, sym next.asks)
    (rw same at (c.ask_by_kind-asked.ensures.over.asks c.args.self.now.depth stream (subst (StandsFor c.args.self.now.depth stream) (sym same) next.stands)))

pub returns-clause-count : goal.returns-clause-count
returns-clause-count g c = λ stream query seat next legal.
    let depth = c.args.self.now.depth in
    let left : drop c.self.inside.asked c.self.inside.seats.seats ≡ seat ∷ next.more = ap (λ (s : Sitting). s.left) c.self.view_is ∙ next.first in
    let levels : c.self.inside.seats.depth ≡ depth = ap (λ (s : Sitting). s.depth) c.self.view_is in
    let fits = subst (λ d. Fits d seat.query) levels (left_fits c.self.inside.seats.depth c.self.inside.asked c.self.inside.seats.seats seat next.more c.all-seats.ensures.each left) in
    answers_count c.args.self.now.version depth stream query seat.block _ _ (subst (Fits depth) next.asks fits) legal _ _ (returns-clause-asks g c stream query seat next)

pub returns-clause-bound : goal.returns-clause-bound
returns-clause-bound g c = λ stream query seat next.
    asks_short c.args.self.now.version c.args.self.now.depth stream seat.block
    (seat_levels c.args.self.now.depth stream c.args.self.now.left query seat next)
    query _ _ _ _ (returns-clause-asks g c stream query seat next)

pub returns-clause-keeps : goal.returns-clause-keeps
returns-clause-keeps g c =
    rw (← c.self.view_is) (rw c.verdict_of-verdict.ensures c.ask_by_kind-asked.ensures.over.keeps)
