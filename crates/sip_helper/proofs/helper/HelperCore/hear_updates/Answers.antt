use Rattle.std.proofs.Common.{refl, sym, ◌∙◌}
use Rattle.sip_helper.proofs.Hearing.{kept_grown, same_grown}
use Rattle.sip_helper.proofs.helper.HelperCore.hear_updates.Goals as goal

pub invariant_of-self : goal.invariant_of-self
invariant_of-self c =
    kept_grown c.self.inside.version c.self.inside.heard c.self.inside.weights c.self.inside.vectors c.self.inside.queries c.self.inside.asked c.in-Some.depth c.args.updates.now c.in-Some-with.weights c.grown.result
    c.self.invariant (sym c.part.ensures ∙ c.in-Some.is) (sym c.with.ensures ∙ c.in-Some-with.is)
    (c.grown.ensures.0, c.grown.ensures.1 ∙ same_grown c.grown.ensures.0 c.take.result c.self.inside.vectors c.args.updates.now c.args.updates.now c.take.ensures.value refl)
