-- A query that does not fit the depth may not come.
use Rattle.std.proofs.Common.{sym, ap, ◌∙◌}
use Rattle.std.proofs.lemmas.Bool.{both_ways}
use Rattle.sip_helper.specs.Turns.{HelperState, whole_of}
use Rattle.sip_helper.proofs.Hearing.{unfit_out}
use Rattle.sip_wire.specs.declared.version.Version.TheVariants.{Two}
use Rattle.sip_helper.proofs.helper.HelperCore.ask.Goals as goal

pub returns-then-not-fits-clause-turn : goal.returns-then-not-fits-clause-turn
returns-then-not-fits-clause-turn c =
    let whole = ap (λ (s : HelperState). whole_of s.heard) (sym c.self.view_is) ∙ sym c.whole.ensures ∙ c.in-Some.is in
    let out = unfit_out Two c.args.self.now c.in-Some.depth c.args.query c.fits.result whole c.requires c.fits.ensures c.if-not-fits.true in
    (λ e. absurd cc, λ e. absurd (both_ways _ out e))
