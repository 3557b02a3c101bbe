-- The sum is the root exactly where what was given folds to it.
use Rattle.std.proofs.Common.{◌≡◌, ◌<◌, true, false, length, sym, subst, ap, ◌∙◌, arith}
use Rattle.std.proofs.lemmas.Bool.{eq-eqb, ne_eqb}
use Rattle.sip_vector.specs.Steps.{needs}
use Rattle.sip_wire.specs.declared.message.Reason.TheVariants as reasons
use Rattle.sip_subvec.specs.AcceptsSub.{gives_root}
use Rattle.sip_subvec.specs.Checking.{Kept, HasTaken}
use Rattle.sip_subvec.proofs.TakingSteps.{root_says}
use Rattle.sip_subvec.proofs.check.SubCheck.test_root.Goals as goal

pub returns-then-number-self : goal.returns-then-number-self
returns-then-number-self g c root lo hi challenges s taken =
    let p = g.F.Field.MODULUS in
    let some : 0 < p = omega (arith, g.met.F.Field.at_least) in
    let ended = subst (λ (k : Kept). k.level ≡ length k.challenges) (sym c.self.view_is) c.requires.whole in
    let test : gives_root p root lo hi challenges s ≡ true =
    root_says p root lo hi challenges s _ (subst (HasTaken p root lo hi challenges s) (sym c.self.view_is) taken) some ended ∙ eq-eqb _ _ (sym c.number.ensures ∙ c.if-number-self.true) in
    ap (λ b. needs b reasons.Root) (sym test)

pub returns-else-number-self : goal.returns-else-number-self
returns-else-number-self g c root lo hi challenges s taken =
    let p = g.F.Field.MODULUS in
    let some : 0 < p = omega (arith, g.met.F.Field.at_least) in
    let ended = subst (λ (k : Kept). k.level ≡ length k.challenges) (sym c.self.view_is) c.requires.whole in
    let test : gives_root p root lo hi challenges s ≡ false =
    root_says p root lo hi challenges s _ (subst (HasTaken p root lo hi challenges s) (sym c.self.view_is) taken) some ended ∙ ne_eqb _ _ (λ e. c.if-number-self.false (c.number.ensures ∙ e)) in
    ap (λ b. needs b reasons.Root) (sym test)
