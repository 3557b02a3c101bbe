-- An opening with a spelling is one of a version, and no deeper than that goes.
use Rattle.std.proofs.Common.{◌≡◌, ◌≤◌, false, true, rules, arith, subst}
use Rattle.std.specs.Prelude.{IfSome}
use Rattle.sip_helper.specs.Turns.{zero_vectors}
use Rattle.sip_wire.specs.declared.version.Version.{Version}
use Rattle.sip_wire.specs.declared.version.Version.TheVariants.{Two}
use Rattle.sip_wire.specs.Versions.{deepest}
use Rattle.sip_helper.proofs.Hearing.{deepest_most, kept_open, opening_fits}
use Rattle.sip_helper.proofs.helper.HelperCore.open_talk.Goals as goal

pub returns-in_default-of-clause-turn : goal.returns-in_default-of-clause-turn
returns-in_default-of-clause-turn c =
    let o = opening_fits Two c.args.number c.args.depth c.requires in
    absurd cc

pub returns-in_default-new-clause-turn : goal.returns-in_default-new-clause-turn
returns-in_default-new-clause-turn c =
    let o = opening_fits Two c.args.number c.args.depth c.requires in
    let most = deepest_most o.version in
    let is : false ≡ true = c.in_default-new.ensures.fits.1 (o.some, omega arith) in
    absurd cc

pub invariant_of-self : goal.invariant_of-self
invariant_of-self c =
    let o = opening_fits Two c.args.number c.args.depth c.requires in
    let same : o.version ≡ c.in-Some.version = cc in
    let deep : c.in-Some-new.depth ≤ deepest o.version = omega (arith, c.in-Some-new.ensures.same, o.deep) in
    let zero : IfSome c.ok.result (λ v. v ≡ zero_vectors c.in-Some-new.depth) = search rules in
    kept_open c.self.inside.version c.in-Some.version c.self.inside.heard c.self.inside.weights c.self.inside.vectors c.ok.result c.self.inside.queries c.self.inside.asked c.in-Some-new.depth
    c.self.invariant c.in-Nothing.is (subst (λ (v : Version). c.in-Some-new.depth ≤ deepest v) same deep) zero
