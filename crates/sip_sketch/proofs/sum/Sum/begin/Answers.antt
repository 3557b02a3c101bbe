-- The first part, where no reason stands against it.
use Rattle.std.proofs.Common.{sym, ap, subst, ◌∙◌}
use Rattle.sip_sketch.specs.Merging.{unlike_first}
use Rattle.sip_sketch.specs.Sketches.{IsSketch, SketchValues}
use Rattle.sip_sketch.specs.inside.Merging.{cleared}
use Rattle.sip_sketch.proofs.Cleared.{first_seats, placed_is, placed_sketch}
use Rattle.sip_sketch.proofs.Grown.{seen}
use Rattle.sip_sketch.proofs.sum.Sum.begin.Goals as goal

pub seats_in_place-seats-requires : goal.seats_in_place-seats-requires
seats_in_place-seats-requires c =
    first_seats c.args.sketch (seen c.part.inside) (ap (unlike_first c.args.sketch) c.part.view_is ∙ sym c.unlike_first.ensures ∙ c.in_default.is)

pub invariant_of-result : goal.invariant_of-result
invariant_of-result c =
    let part = seen c.part.inside in
    let free = ap (unlike_first c.args.sketch) c.part.view_is ∙ sym c.unlike_first.ensures ∙ c.in_default.is in
    subst (λ (s : SketchValues). IsSketch (cleared s)) (sym (placed_is c.args.sketch part c.seats_in_place-seats.result.items c.seats_in_place-seats.ensures))
    (placed_sketch c.args.sketch part c.part.invariant free)
