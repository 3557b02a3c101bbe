use Rattle.std.proofs.Common.{refl, ◌∙◌, arith}
use Rattle.sip_vector.specs.Extensions.{chi}
use Rattle.sip_vector.proofs.Products.{last_factor}
use Rattle.sip_mle.proofs.FactorSteps.{factor_right, factor_left}
use Rattle.sip_mle.proofs.factor.times_chi.Goals as goal
use Rattle.sip_mle.proofs.factor.times_chi.Goals.{then-path-eq1, else-path-eq1}

pub loop-below-preserved : goal.loop-below-preserved
loop-below-preserved g c = elim c.if-path-eq1.branch [
  | then-path-eq1 w ↦
      rw (c.times-product.ensures, w.factor-is, c.at-r.ensures)
      (factor_right _ c.args.seat.now c.loop-below.below c.loop-below.path _ (omega arith) w.if-path-eq1.true ∙ c.loop-below.invariant)
  | else-path-eq1 w ↦
      rw (c.times-product.ensures, w.factor-is, w.minus-factor.ensures, w.of.ensures, c.at-r.ensures)
      (factor_left _ c.args.seat.now c.loop-below.below c.loop-below.path _ (omega arith) w.if-path-eq1.false ∙ c.loop-below.invariant)
]

pub returns : goal.returns
returns g c =
    last_factor _ _ c.loop-below.below (chi g.F.Field.MODULUS c.loop-below.path) c.args.seat.now (g.met.F.Field.below c.loop-below.product) (omega arith) refl
    ∙ c.loop-below.invariant
