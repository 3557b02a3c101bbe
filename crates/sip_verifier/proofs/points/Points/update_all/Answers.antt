-- The updates are all those of their side, and the other side has none of them.
use Rattle.std.proofs.Common.{◌≡◌, subst, refl, All}
use Rattle.sip_field.specs.Moduli.{m61_modulus}
use Rattle.sip_mle.specs.StandsFor.{PointStandsFor}
use Rattle.sip_vector.specs.declared.update.Side.{Side}
use Rattle.sip_vector.specs.declared.update.Side.TheVariants.{First, Second}
use Rattle.sip_vector.specs.declared.update.Update.{Update}
use Rattle.sip_verifier.proofs.Seating.{of_own, of_other}
use Rattle.sip_verifier.proofs.points.Points.update_all.Goals as goal

pub returns-in-First-clause-first : goal.returns-in-First-clause-first
returns-in-First-clause-first c = λ numbers stands.
    let updates = c.args.updates.now in
    let all = subst (λ (s : Side). All (λ (u : Update). u.side ≡ s) updates) c.in-First.is c.requires.sides in
    let own = of_own updates First all in
    rw own (c.update_all.ensures.stands numbers stands)

pub returns-in-First-clause-second : goal.returns-in-First-clause-second
returns-in-First-clause-second c = λ numbers stands.
    let updates = c.args.updates.now in
    let all = subst (λ (s : Side). All (λ (u : Update). u.side ≡ s) updates) c.in-First.is c.requires.sides in
    let none = of_other updates First Second all refl in
    rw (none, c.update_all.ensures.seat) stands

pub returns-in-Second-clause-first : goal.returns-in-Second-clause-first
returns-in-Second-clause-first c = λ numbers stands.
    let updates = c.args.updates.now in
    let all = subst (λ (s : Side). All (λ (u : Update). u.side ≡ s) updates) c.in-Second.is c.requires.sides in
    let none = of_other updates Second First all refl in
    rw (none, c.swap-in-Second.ensures.seat, c.update_all-in-Second.ensures.seat, c.swap.ensures.seat, c.swap-in-Second.ensures.first, c.swap.ensures.second) stands

pub returns-in-Second-clause-second : goal.returns-in-Second-clause-second
returns-in-Second-clause-second c = λ numbers stands.
    let updates = c.args.updates.now in
    let all = subst (λ (s : Side). All (λ (u : Update). u.side ≡ s) updates) c.in-Second.is c.requires.sides in
    let own = of_own updates Second all in
    let lent : PointStandsFor m61_modulus c.swap.new.self.first.seat c.swap.new.self.first.value numbers = rw (c.swap.ensures.seat, c.swap.ensures.first) stands in
    let raised = c.update_all-in-Second.ensures.stands numbers lent in
    rw (own, c.swap-in-Second.ensures.seat, c.swap-in-Second.ensures.second) raised
