use Rattle.std.proofs.Common.{ℕ, ◌-◌, ◌^◌, sym, ap, subst, ◌∙◌, arith}
use Rattle.sip_sums.specs.Checking.{zero_polynomial}
use Rattle.sip_sums.specs.Pairs.{paired, pair_in, summed, Rises}
use Rattle.sip_sums.proofs.ListPairs.{pairs-rise}
use Rattle.sip_sums.proofs.PairSums.{within-are}
use Rattle.sip_sums.proofs.RoundLists.{halves, half_fits}
use Rattle.sip_sums.proofs.pairs.polynomial_within.Goals as goal

pub within-requires : goal.within-requires
within-requires g c =
    let m : ℕ = 2 ^ (c.folds_left.result - 1) in
    let long = c.folds_left.ensures.exact ∙ halves c.folds_left.result _ c.folds_left.ensures.exact c.requires.some in
    (m, half_fits c.folds_left.result c.folds_left.ensures.most, c.requires.same ∙ long, subst (λ es. Rises 0 m (paired es)) (sym c.nonzero.ensures.all) (pairs-rise 0 m m c.args.level.now long (omega arith)))

pub returns : goal.returns
returns g c =
    let p : ℕ = g.F.Field.MODULUS in
    let m : ℕ = 2 ^ (c.folds_left.result - 1) in
    let long = c.folds_left.ensures.exact ∙ halves c.folds_left.result _ c.folds_left.ensures.exact c.requires.some in
    c.within.ensures ∙ ap (λ es. summed p (λ s. pair_in c.args.interval.now s.index) zero_polynomial (paired es)) c.nonzero.ensures.all
    ∙ within-are p (omega (arith, g.met.F.Field.at_least)) m c.args.level.now c.args.interval.now long (c.requires.same ∙ long)
