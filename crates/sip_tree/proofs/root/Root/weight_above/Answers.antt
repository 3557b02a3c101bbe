use Rattle.std.proofs.Common.{◌<◌, drop, arith}
use Rattle.sip_tree.proofs.WeightSteps.{weight_of_one}
use Rattle.sip_tree.proofs.root.Root.weight_above.Goals as goal

pub returns : goal.returns
returns g c =
    let above : 1 < g.F.Field.MODULUS = omega (arith, g.met.F.Field.at_least) in
    rw (c.weighted.ensures, c.of.ensures) (weight_of_one _ c.args.index (drop c.args.level c.args.self.now.seat) above)
