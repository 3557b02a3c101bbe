use Rattle.std.proofs.Common.{refl, ◌∙◌, arith}
use Rattle.sip_vector.specs.Weights.{node_weight}
use Rattle.sip_vector.proofs.Products.{last_factor}
use Rattle.sip_tree.proofs.WeightSteps.{weight_right, weight_left}
use Rattle.sip_tree.proofs.weight.weighted.Goals as goal
use Rattle.sip_tree.proofs.weight.weighted.Goals.{then-path-eq1, else-path-eq1}

pub loop-below-preserved : goal.loop-below-preserved
loop-below-preserved g c = elim c.if-path-eq1.branch [
  | then-path-eq1 w ↦
      rw (w.product-is, w.times-product.ensures, w.at.ensures)
      (weight_right _ c.args.seat.now c.loop-below.below c.loop-below.path (omega arith) _ w.if-path-eq1.true ∙ c.loop-below.invariant)
  | else-path-eq1 w ↦ rw w.product-is (weight_left _ c.args.seat.now c.loop-below.below c.loop-below.path (omega arith) _ w.if-path-eq1.false ∙ c.loop-below.invariant)
]

pub returns : goal.returns
returns g c =
    last_factor _ _ c.loop-below.below (node_weight g.F.Field.MODULUS c.loop-below.path) c.args.seat.now (g.met.F.Field.below c.loop-below.product) (omega arith) refl
    ∙ c.loop-below.invariant
