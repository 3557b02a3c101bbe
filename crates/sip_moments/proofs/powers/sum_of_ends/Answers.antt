use Rattle.std.proofs.Common.{map, arith}
use Rattle.std.proofs.lemmas.List.{drop_all}
use Rattle.sip_counts.specs.Rounds.{sum_of_ends}
use Rattle.sip_moments.proofs.PowerSteps.{ends-first, ends-step, ends-last}
use Rattle.sip_moments.proofs.powers.sum_of_ends.Goals as goal

pub loop-coefficient-init : goal.loop-coefficient-init
loop-coefficient-init g c = ends-first g.F.Field.number g.F.Field.MODULUS c.args.poly.now _ c.requires c.index-poly-0.is

pub loop-coefficient-preserved : goal.loop-coefficient-preserved
loop-coefficient-preserved g c =
    let number = g.F.Field.number in
    ends-step number g.F.Field.MODULUS c.args.poly.now c.loop-coefficient.coefficient-index c.coefficient-item.result (number c.loop-coefficient.sum) (number c.plus-sum.result)
    (sum_of_ends g.F.Field.MODULUS (map number c.args.poly.now)) c.loop-coefficient-test.true c.coefficient-item.is c.loop-coefficient.invariant c.plus-sum.ensures

pub returns : goal.returns
returns g c =
    ends-last g.F.Field.number g.F.Field.MODULUS _ _ _ (drop_all c.loop-coefficient.coefficient-index c.args.poly.now (omega (arith, c.loop-coefficient-test.false)))
    (g.met.F.Field.below c.loop-coefficient.sum) c.loop-coefficient.invariant
