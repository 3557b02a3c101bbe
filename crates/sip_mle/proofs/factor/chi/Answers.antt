use Rattle.std.proofs.Common.{◌<◌, arith}
use Rattle.sip_mle.proofs.FactorSteps.{factor_of_one}
use Rattle.sip_mle.proofs.factor.chi.Goals as goal

pub returns : goal.returns
returns g c =
    let above : 1 < g.F.Field.MODULUS = omega (arith, g.met.F.Field.at_least) in
    rw (c.times_chi.ensures, c.of.ensures) (factor_of_one _ c.args.index c.args.seat.now above)
