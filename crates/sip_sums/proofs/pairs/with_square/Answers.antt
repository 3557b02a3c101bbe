use Rattle.sip_sums.specs.Polynomials.{coefficients_of}
use Rattle.sip_sums.proofs.ProductSteps.{with_square-is}
use Rattle.sip_sums.proofs.pairs.with_square.Goals as goal

pub returns : goal.returns
returns g c =
    with_square-is g.F.Field.MODULUS (coefficients_of g.F.Field.number c.args.sums) _ _ _ c.minus-slope.ensures _ _ _ c.times-2.ensures c.plus-4.ensures
    _ _ _ _ c.times.ensures c.plus.ensures c.times-cross.ensures c.plus-2.ensures c.plus-3.ensures c.args.pair.index
