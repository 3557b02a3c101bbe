-- What came of the next moment came of the first that is left.
use Rattle.std.proofs.Common.{◌≡◌, ◌<◌, ◌+◌, ◌≤◌, ℕ, List, get_or, length, Err, refl, sym, ap, subst, ◌∙◌, arith, rules, w64, to_z, of_z, FitsSigned}
use Rattle.std.proofs.lemmas.Int.{to_z-of_z}
use Rattle.sip_field.specs.Elements.{m61_number}
use Rattle.sip_vector.specs.declared.update.Side.TheVariants.{First}
use Rattle.sip_verifier.specs.runs.Askers.{Asks, IsFirst, has_failed}
use Rattle.sip_verifier.specs.SeatNumbers.{IsPointAt}
use Rattle.sip_verifier.proofs.KeptAsks.{given_keeps, stop_keeps}
use Rattle.sip_moments.specs.declared.asker.MomentGiven.{MomentGiven}
use Rattle.sip_moments.specs.declared.moment.Moment.{Moment}
use Rattle.sip_moments.specs.Manner.{asking}
use Rattle.sip_moments.specs.Moments.{IsDegree}
use Rattle.sip_moments.specs.Sittings.{Sitting, StandsFor, States, remaining_of}
use Rattle.sip_moments.proofs.MomentNext.{behind_now, given_next, next_is, no_point, none_next, read_at, still_left}
use Rattle.sip_moments.proofs.asker.QuestionsAsker.ask_next.Goals as goal

abbrev none : Moment
none = record { side = First; degree = 0 }

pub bounds-deref-self-inside : goal.bounds-deref-self-inside
bounds-deref-self-inside g c =
    let less = still_left _ c.args.self.now c.self.view_is c.self.inside.same c.requires.left in
    subst (λ (l : List Moment). c.self.inside.asked < length l) (sym c.deref.ensures.0) less

pub unreachable-requires : goal.unreachable-requires
unreachable-requires g c =
    let less = still_left _ c.args.self.now c.self.view_is c.self.inside.same c.requires.left in
    no_point c.self.inside.moments.items c.self.inside.seats c.self.inside.asked c.self.inside.same less
    c.in_default.ensures.asked

pub ask_moment-asked-requires : goal.ask_moment-asked-requires
ask_moment-asked-requires g c =
    let less = still_left _ c.args.self.now c.self.view_is c.self.inside.same c.requires.left in
    subst (λ (l : List Moment). IsDegree (get_or l c.self.inside.asked none).degree)
    (sym c.deref.ensures.0) (c.self.inside.degrees c.self.inside.asked none less)

pub invariant_of-self-inside : goal.invariant_of-self-inside
invariant_of-self-inside g c =
    let less = still_left _ c.args.self.now c.self.view_is c.self.inside.same c.requires.left in
    let within : c.self.inside.asked + 1 ≤ length c.self.inside.moments.items = omega (arith, less) in
    (within, (c.self.inside.degrees, (c.self.inside.same, tt)))

pub returns-clause-asks : goal.returns-clause-asks
returns-clause-asks g c =
    let fits : FitsSigned w64 c.in-Ok.value = search rules in
    let kept : to_z w64 (of_z w64 c.in-Ok.value) ≡ c.in-Ok.value = to_z-of_z w64 c.in-Ok.value fits in
    rw (← c.self.view_is) (λ stream ask stands first.
    let less = still_left _ c.args.self.now c.self.view_is c.self.inside.same c.requires.left in
    let point = subst (λ (n : ℕ). IsPointAt c.self.inside.seats c.self.inside.asked c.in-Some.point.now.seat n) (sym c.value-extension.ensures) c.in-Some.ensures.stands in
    let next = next_is _ stream ask _ _ (m61_number c.value-extension.result) stands first
    (read_at c.self.inside.moments.items c.deref.result.now c.self.inside.asked none c.deref.ensures.0 less) point in
    let asks = c.ask_moment-asked.ensures.asks c.self.inside.seats.depth stream next.power in
    given_next (asking c.self.inside.version c.self.inside.seats.depth stream) ask _ _ _ _ next.same
    c.in-Ok.value _ refl kept (rw c.in-Ok.is at asks))

pub returns-in-Err-clause-asks : goal.returns-in-Err-clause-asks
returns-in-Err-clause-asks g c = λ stream ask stands first.
    let is = c.self.view_is in
    let less = still_left _ c.args.self.now is c.self.inside.same c.requires.left in
    let point = subst (λ (n : ℕ). IsPointAt c.self.inside.seats c.self.inside.asked c.in-Some.point.now.seat n) (sym c.value-extension.ensures) c.in-Some.ensures.stands in
    let next = next_is _ stream ask _ _ (m61_number c.value-extension.result)
    (subst (λ (s : Sitting). StandsFor stream s) (sym is) stands)
    (subst (λ (s : Sitting). IsFirst (remaining_of s) ask) (sym is) first)
    (read_at c.self.inside.moments.items c.deref.result.now c.self.inside.asked none c.deref.ensures.0 less) point in
    let asks = c.ask_moment-asked.ensures.asks c.self.inside.seats.depth stream next.power in
    subst (λ (s : Sitting). Asks (asking s.version s.seats.depth stream) ask (g.L.Sink.talk c.args.link.now) (g.L.Sink.talk c.ask_moment-asked.new.link) (λ (given : MomentGiven) z. States given ask.0 z) (Err c.in-Err.why)) is
    (none_next (asking c.self.inside.version c.self.inside.seats.depth stream) ask _ _ _ _ next.same
    (λ (given : MomentGiven) z. States given ask.0 z) c.in-Err.why (rw c.in-Err.is at asks))

pub returns-clause-remaining : goal.returns-clause-remaining
returns-clause-remaining g c =
    behind_now _ c.args.self.now c.self.view_is _ _ (c.has_failed-self-inside.ensures ∙ ap has_failed c.in-Ok.is)

pub returns-in-Err-clause-remaining : goal.returns-in-Err-clause-remaining
returns-in-Err-clause-remaining g c =
    behind_now _ c.args.self.now c.self.view_is _ _ (c.has_failed-self-inside.ensures ∙ ap has_failed c.in-Err.is)

pub returns-clause-keeps : goal.returns-clause-keeps
returns-clause-keeps g c =
    rw (← c.self.view_is) (given_keeps c.self.inside.version _ _ _ _ _ _ (rw c.in-Ok.is at c.ask_moment-asked.ensures.keeps))

pub returns-in-Err-clause-keeps : goal.returns-in-Err-clause-keeps
returns-in-Err-clause-keeps g c =
    rw (← c.self.view_is) (stop_keeps c.self.inside.version _ _ _ _ c.in-Err.why (rw c.in-Err.is at c.ask_moment-asked.ensures.keeps))
