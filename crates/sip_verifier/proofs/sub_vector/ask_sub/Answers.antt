-- The general talk, by the protocol of the stream for which the root stands.
use Rattle.std.proofs.Common.{rules, ◌≡◌, ◌≤◌, ℕ, List, length, take, refl, ap, subst, ◌∙◌}
use Rattle.std.proofs.lemmas.List.{take_at}
use Rattle.sip_vector.specs.declared.update.Entry.{Entry}
use Rattle.sip_subvec.specs.Asking.{most_answer}
use Rattle.sip_verifier.specs.inside.Judging.{found_in}
use Rattle.sip_verifier.proofs.KeptAsks.{asked_keeps}
use Rattle.sip_verifier.proofs.RootAsked.{RootAnswers, interval_fits, root_asks, root_counts, root_short}
use Rattle.sip_verifier.proofs.sub_vector.ask_sub.Goals as goal

pub ask-asked-requires-clause-fits : goal.ask-asked-requires-clause-fits
ask-asked-requires-clause-fits g c =
    interval_fits c.args.version _ c.args.lo c.args.hi c.requires.order c.requires.within c.requires.shallow

pub ask-asked-requires-clause-stood : goal.ask-asked-requires-clause-stood
ask-asked-requires-clause-stood g c =
    let room : most_answer c.args.lo c.args.hi ≤ length c.deref_mut.result.now = search rules in
    (_, c.start-check.ensures.stands c.args.version c.deref_mut.result.now room)

pub returns-clause-keeps : goal.returns-clause-keeps
returns-clause-keeps g c =
    let room : most_answer c.args.lo c.args.hi ≤ length c.deref_mut.result.now = search rules in
    let e = c.ask-asked.ensures in
    rw c.verdict_of.ensures
    (asked_keeps _ _ _ _ _ _ _ _ c.ask-asked.result (e.answers _ refl (c.start-check.ensures.stands c.args.version c.deref_mut.result.now room))
    e.peer e.keeper e.memory e.keeper_memory)

pub returns-clause-asks : goal.returns-clause-asks
returns-clause-asks g c = λ depth stream stands.
    let root = c.args.root.now in
    let places = c.ask-asked.new.places in
    let room : most_answer c.args.lo c.args.hi ≤ length c.deref_mut.result.now = search rules in
    let size : length places ≡ c.resize.new.self.len = search rules in
    let count : c.len.result ≡ length places = search rules in
    let whole = take_at places _ c.resize.new.self.len size in
    let found = c.found_in.ensures ∙ ap (λ (n : ℕ). found_in n c.ask-asked.result) count in
    let shown : c.truncate.new.self.items ≡ take (found_in (length places) c.ask-asked.result) places =
    c.truncate.ensures.items ∙ ap (λ (l : List Entry). take c.found_in.result l) whole ∙ ap (λ (n : ℕ). take n places) found in
    let answers = c.ask-asked.ensures.answers _ refl (c.start-check.ensures.stands c.args.version c.deref_mut.result.now room) in
    let at_block = subst (λ (block : List ℕ). RootAnswers c.args.version c.args.lo c.args.hi root.seat root.value block (g.L.Sink.talk c.args.link.now) (g.L.Sink.talk c.ask-asked.new.link) (g.C.Sink.talk c.args.keep.now) (g.C.Sink.talk c.ask-asked.new.keep) places c.ask-asked.result) c.start-check.ensures.block answers in
    rw (shown, c.verdict_of.ensures)
    (root_asks c.args.version c.args.lo c.args.hi root.seat root.value depth stream stands _ _ _ _ places c.ask-asked.result at_block)

pub returns-clause-count : goal.returns-clause-count
returns-clause-count g c = λ depth stream stands.
    let root = c.args.root.now in
    root_counts c.args.version c.args.lo c.args.hi root.seat root.value depth stream stands _ _ _ _ (returns-clause-asks g c depth stream stands) c.requires.order c.requires.within

pub returns-clause-bound : goal.returns-clause-bound
returns-clause-bound g c = λ depth stream stands.
    let root = c.args.root.now in
    root_short c.args.version c.args.lo c.args.hi root.seat root.value depth stream stands _ _ _ _ (returns-clause-asks g c depth stream stands)
