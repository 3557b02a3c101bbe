use Rattle.std.proofs.Common.{arith}
use Rattle.sip_sums.specs.Polynomials.{coefficients_of}
use Rattle.sip_sums.proofs.ProductSteps.{with_line-is}
use Rattle.sip_sums.proofs.pairs.with_line.Goals as goal

pub returns : goal.returns
returns g c =
    with_line-is g.F.Field.MODULUS (coefficients_of g.F.Field.number c.args.sums) (omega (arith, g.met.F.Field.at_least)) (g.met.F.Field.below c.args.sums.c2)
    _ _ _ _ _ _ _ c.args.pair.index c.args.weights.index c.requires.left c.requires.right c.minus.ensures c.plus.ensures c.plus-2.ensures
