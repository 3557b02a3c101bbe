use Rattle.std.proofs.Common.{ℕ, ◌-◌, ◌^◌, sym, subst, ◌∙◌, arith}
use Rattle.sip_sums.specs.Pairs.{paired, Rises}
use Rattle.sip_sums.proofs.ListPairs.{pairs-rise}
use Rattle.sip_sums.proofs.PairSums.{products-of}
use Rattle.sip_sums.proofs.RoundLists.{halves}
use Rattle.sip_sums.proofs.pairs.polynomial_of_products.Goals as goal

pub returns : goal.returns
returns g c =
    let p : ℕ = g.F.Field.MODULUS in
    let m : ℕ = 2 ^ (c.folds_left.result - 1) in
    let long = c.folds_left.ensures.exact ∙ halves c.folds_left.result _ c.folds_left.ensures.exact c.requires.some in
    let long_too = c.requires.same ∙ long in
    let rise = subst (λ es. Rises 0 m (paired es)) (sym c.nonzero.ensures.all) (pairs-rise 0 m m c.args.first.now long (omega arith)) in
    let rise_too = subst (λ es. Rises 0 m (paired es)) (sym c.nonzero-2.ensures.all) (pairs-rise 0 m m c.args.second.now long_too (omega arith)) in
    products-of p (omega (arith, g.met.F.Field.at_least)) m c.args.first.now c.args.second.now _ _ _ long long_too c.nonzero.ensures.all c.nonzero-2.ensures.all
    (c.products.ensures m rise rise_too)
