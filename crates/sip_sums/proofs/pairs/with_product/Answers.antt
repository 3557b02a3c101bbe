use Rattle.sip_sums.specs.Polynomials.{coefficients_of}
use Rattle.sip_sums.proofs.ProductSteps.{with_product-is}
use Rattle.sip_sums.proofs.pairs.with_product.Goals as goal

pub returns : goal.returns
returns g c =
    with_product-is g.F.Field.MODULUS (coefficients_of g.F.Field.number c.args.sums) _ _ _ _ _ _ c.minus-slope.ensures c.minus-other_slope.ensures
    _ _ _ _ _ _ _ _ c.times-3.ensures c.plus.ensures c.times.ensures c.times-2.ensures c.plus-cross.ensures c.plus-2.ensures c.times-4.ensures c.plus-3.ensures
    c.args.one.index c.args.other.index
