-- What the call over places of its own did, where the places behind the pairs are given up.
use Rattle.std.proofs.Common.{rules, ◌≡◌, ℕ, List, length, take, refl, ap, subst, ◌∙◌}
use Rattle.std.proofs.lemmas.List.{take_at}
use Rattle.sip_vector.specs.declared.update.Entry.{Entry}
use Rattle.sip_vector.specs.Answers.{Fits}
use Rattle.sip_verifier.specs.inside.Judging.{found_in}
use Rattle.sip_verifier.proofs.AnswersCounted.{answers_count}
use Rattle.sip_verifier.proofs.SeatLevels.{runs_levels}
use Rattle.sip_verifier.proofs.SeatsHead.{seat-fits}
use Rattle.sip_verifier.proofs.ShortTalks.{asks_short}
use Rattle.sip_verifier.proofs.seat_asking.ask_seat.Goals as goal

pub returns-clause-asks : goal.returns-clause-asks
returns-clause-asks g c = λ depth stream stands.
    let places = c.ask_by_kind-asked.new.entries in
    let size : length places ≡ c.resize.new.self.len = search rules in
    let count : c.len.result ≡ length places = search rules in
    let whole = take_at places _ c.resize.new.self.len size in
    let found = c.found_in.ensures ∙ ap (λ (n : ℕ). found_in n c.ask_by_kind-asked.result) count in
    let shown : c.truncate.new.self.items ≡ take (found_in (length places) c.ask_by_kind-asked.result) places =
    c.truncate.ensures.items ∙ ap (λ (l : List Entry). take c.found_in.result l) whole ∙ ap (λ (n : ℕ). take n places) found in
    rw (shown, c.verdict_of.ensures) (c.ask_by_kind-asked.ensures.over.asks depth stream stands)

pub returns-clause-count : goal.returns-clause-count
returns-clause-count g c = λ depth stream stands legal.
    let seat = c.args.seat.now in
    let levels = runs_levels depth stream seat.query seat.block seat.running stands in
    let fits = subst (λ d. Fits d seat.query) levels (seat-fits (length seat.block) seat seat.block c.requires.seat refl) in
    answers_count c.args.version depth stream seat.query seat.block _ _ fits legal _ _ (returns-clause-asks g c depth stream stands)

pub returns-clause-bound : goal.returns-clause-bound
returns-clause-bound g c = λ depth stream stands.
    let seat = c.args.seat.now in
    let levels = runs_levels depth stream seat.query seat.block seat.running stands in
    asks_short c.args.version depth stream seat.block levels seat.query _ _ _ _ (returns-clause-asks g c depth stream stands)
