-- Before any fold both ends are 1.
use Rattle.std.proofs.Common.{◌%◌, ◌<◌, ◌∙◌, ap, arith}
use Rattle.sip_mle.specs.Intervals.{interval}
use Rattle.sip_mle.proofs.IntervalLemmas.{interval_of_ones, length-interval}
use Rattle.sip_mle.proofs.interval.IntervalFold.of_levels.Goals as goal

pub returns-clause-list : goal.returns-clause-list
returns-clause-list g c =
    let p = g.F.Field.MODULUS in
    let a = c.args in
    let above : 1 < p = omega (arith, g.met.F.Field.at_least) in
    ap (λ v. interval a.levels a.lo a.hi v (g.F.Field.number c.of-2.result)) c.of.ensures
    ∙ ap (λ v. interval a.levels a.lo a.hi (1 % p) v) c.of-2.ensures
    ∙ interval_of_ones p a.levels a.lo a.hi above c.requires.order

pub returns-clause-length : goal.returns-clause-length
returns-clause-length g c =
    length-interval c.args.levels c.args.lo c.args.hi (g.F.Field.number c.of.result) (g.F.Field.number c.of-2.result)
