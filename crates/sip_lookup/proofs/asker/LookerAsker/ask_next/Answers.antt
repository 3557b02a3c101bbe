-- What came of the next lookup came of the first that is left.
use Rattle.std.proofs.Common.{◌<◌, ◌≤◌, ◌+◌, ◌^◌, List, Err, get_or, length, refl, sym, ap, subst, ◌∙◌, arith}
use Rattle.sip_verifier.specs.runs.Askers.{Asks, IsFirst, has_failed}
use Rattle.sip_verifier.proofs.KeptAsks.{given_keeps, stop_keeps}
use Rattle.sip_lookup.specs.declared.asker.LookGiven.{LookGiven}
use Rattle.sip_lookup.specs.declared.lookup.Lookup.{Lookup}
use Rattle.sip_lookup.specs.declared.lookup.Lookup.TheVariants.{Index}
use Rattle.sip_lookup.specs.Lookups.{item_of}
use Rattle.sip_lookup.specs.Questions.{looking}
use Rattle.sip_lookup.specs.Sittings.{IsGiven, LookSitting, StandsOn, remaining_of}
use Rattle.sip_lookup.proofs.LooksLeft.{behind_now, first_is, given_next, item_at, no_root, none_next, root_stands, stand_behind, still_left}
use Rattle.sip_lookup.proofs.asker.LookerAsker.ask_next.Goals as goal

pub bounds-deref-self-inside : goal.bounds-deref-self-inside
bounds-deref-self-inside g c =
    let less = still_left c.self.inside.version c.self.inside.depth c.self.inside.lookups.items c.self.inside.seats c.self.inside.asked c.self.inside.is_spent c.args.self.now c.self.view_is c.self.inside.each c.requires.left in
    subst (λ (l : List Lookup). c.self.inside.asked < length l) (sym c.deref.ensures.0) less

pub unreachable-requires : goal.unreachable-requires
unreachable-requires g c =
    let less = still_left c.self.inside.version c.self.inside.depth c.self.inside.lookups.items c.self.inside.seats c.self.inside.asked c.self.inside.is_spent c.args.self.now c.self.view_is c.self.inside.each c.requires.left in
    no_root c.self.inside.seats c.self.inside.asked c.self.inside.rooted (omega (arith, less, c.self.inside.each)) c.in_default.ensures.asked

pub ask_look-asked-requires-clause-item : goal.ask_look-asked-requires-clause-item
ask_look-asked-requires-clause-item g c =
    let less = still_left c.self.inside.version c.self.inside.depth c.self.inside.lookups.items c.self.inside.seats c.self.inside.asked c.self.inside.is_spent c.args.self.now c.self.view_is c.self.inside.each c.requires.left in
    subst (λ (l : List Lookup). item_of (get_or l c.self.inside.asked (Index 0)) < 2 ^ c.self.inside.depth) (sym c.deref.ensures.0)
    (item_at c.self.inside.depth c.self.inside.lookups.items c.self.inside.asked (Index 0) c.self.inside.items less)

pub invariant_of-self-inside : goal.invariant_of-self-inside
invariant_of-self-inside g c =
    let less = still_left c.self.inside.version c.self.inside.depth c.self.inside.lookups.items c.self.inside.seats c.self.inside.asked c.self.inside.is_spent c.args.self.now c.self.view_is c.self.inside.each c.requires.left in
    let within : c.self.inside.asked + 1 ≤ length c.self.inside.lookups.items = omega (arith, less) in
    (c.self.inside.levels, (c.self.inside.each, (c.self.inside.rooted, (within, (c.self.inside.items, (c.self.inside.shallow, (omega (arith, c.self.inside.room, c.ask_look-asked.ensures.room), tt)))))))

pub returns-clause-asks : goal.returns-clause-asks
returns-clause-asks g c =
    rw (← c.self.view_is) (λ stream ask stands first.
    let less = still_left c.self.inside.version c.self.inside.depth c.self.inside.lookups.items c.self.inside.seats c.self.inside.asked c.self.inside.is_spent c.args.self.now c.self.view_is c.self.inside.each c.requires.left in
    let keeps = c.in-Some.ensures.kept in
    let same = first_is c.self.inside.version c.self.inside.depth c.self.inside.lookups.items c.self.inside.seats c.self.inside.asked c.self.inside.is_spent (Index 0) c.in-Some.root.now.seat c.in-Some.root.now.value less keeps ask first in
    let root = root_stands c.self.inside.version c.self.inside.depth c.self.inside.lookups.items c.self.inside.seats c.self.inside.asked c.self.inside.is_spent (Index 0) c.in-Some.root.now.seat c.in-Some.root.now.value less keeps stream stands in
    let asks = c.ask_look-asked.ensures.asks stream root in
    given_next (looking c.self.inside.version c.self.inside.depth stream) ask _ _ _ _
    (same ∙ ap (λ (l : List Lookup). (get_or l c.self.inside.asked (Index 0), c.in-Some.root.now.seat)) (sym c.deref.ensures.0))
    c.in-Ok.answer _ refl refl (rw c.in-Ok.is at asks))

pub returns-in-Err-clause-asks : goal.returns-in-Err-clause-asks
returns-in-Err-clause-asks g c = λ stream ask stands first.
    let is = c.self.view_is in
    let less = still_left c.self.inside.version c.self.inside.depth c.self.inside.lookups.items c.self.inside.seats c.self.inside.asked c.self.inside.is_spent c.args.self.now is c.self.inside.each c.requires.left in
    let keeps = c.in-Some.ensures.kept in
    let same = first_is c.self.inside.version c.self.inside.depth c.self.inside.lookups.items c.self.inside.seats c.self.inside.asked c.self.inside.is_spent (Index 0) c.in-Some.root.now.seat c.in-Some.root.now.value less keeps ask
    (subst (λ (s : LookSitting). IsFirst (remaining_of s) ask) (sym is) first) in
    let root = root_stands c.self.inside.version c.self.inside.depth c.self.inside.lookups.items c.self.inside.seats c.self.inside.asked c.self.inside.is_spent (Index 0) c.in-Some.root.now.seat c.in-Some.root.now.value less keeps stream
    (subst (StandsOn stream) (sym is) stands) in
    let asks = c.ask_look-asked.ensures.asks stream root in
    subst (λ (s : LookSitting). Asks (looking s.version s.depth stream) ask (g.L.Sink.talk c.args.link.now) (g.L.Sink.talk c.ask_look-asked.new.link) (λ (given : LookGiven). IsGiven given ask.0) (Err c.in-Err.why)) is
    (none_next (looking c.self.inside.version c.self.inside.depth stream) ask _ _ _ _
    (same ∙ ap (λ (l : List Lookup). (get_or l c.self.inside.asked (Index 0), c.in-Some.root.now.seat)) (sym c.deref.ensures.0))
    (λ (given : LookGiven). IsGiven given ask.0) c.in-Err.why (rw c.in-Err.is at asks))

pub returns-clause-stands : goal.returns-clause-stands
returns-clause-stands g c = λ stream stands. stand_behind c.self.inside.version c.self.inside.depth c.self.inside.lookups.items c.self.inside.seats c.self.inside.asked c.self.inside.is_spent c.args.self.now c.self.view_is stream (has_failed c.ask_look-asked.result) stands

pub returns-in-Err-clause-stands : goal.returns-in-Err-clause-stands
returns-in-Err-clause-stands g c = λ stream stands. stand_behind c.self.inside.version c.self.inside.depth c.self.inside.lookups.items c.self.inside.seats c.self.inside.asked c.self.inside.is_spent c.args.self.now c.self.view_is stream (has_failed c.ask_look-asked.result) stands

pub returns-clause-remaining : goal.returns-clause-remaining
returns-clause-remaining g c =
    behind_now c.self.inside.version c.self.inside.depth c.self.inside.lookups.items c.self.inside.seats c.self.inside.asked c.self.inside.is_spent c.args.self.now c.self.view_is _ _ (c.has_failed-self-inside.ensures ∙ ap has_failed c.in-Ok.is)

pub returns-in-Err-clause-remaining : goal.returns-in-Err-clause-remaining
returns-in-Err-clause-remaining g c =
    behind_now c.self.inside.version c.self.inside.depth c.self.inside.lookups.items c.self.inside.seats c.self.inside.asked c.self.inside.is_spent c.args.self.now c.self.view_is _ _ (c.has_failed-self-inside.ensures ∙ ap has_failed c.in-Err.is)

pub returns-clause-keeps : goal.returns-clause-keeps
returns-clause-keeps g c =
    rw (← c.self.view_is) (given_keeps c.self.inside.version _ _ _ _ _ _ (rw c.in-Ok.is at c.ask_look-asked.ensures.keeps))

pub returns-in-Err-clause-keeps : goal.returns-in-Err-clause-keeps
returns-in-Err-clause-keeps g c =
    rw (← c.self.view_is) (stop_keeps c.self.inside.version _ _ _ _ _ (rw c.in-Err.is at c.ask_look-asked.ensures.keeps))
