use Rattle.std.proofs.Common.{ℕ, ◌-◌, ◌^◌, ap, ◌∙◌, arith}
use Rattle.sip_sums.specs.Checking.{zero_polynomial}
use Rattle.sip_sums.specs.Pairs.{paired, summed}
use Rattle.sip_sums.proofs.PairSums.{squares-are}
use Rattle.sip_sums.proofs.RoundLists.{halves}
use Rattle.sip_sums.proofs.pairs.polynomial_of_squares.Goals as goal

pub returns : goal.returns
returns g c =
    let p : ℕ = g.F.Field.MODULUS in
    c.squares.ensures ∙ ap (λ es. summed p (λ s. s) zero_polynomial (paired es)) c.nonzero.ensures.all
    ∙ squares-are p (omega (arith, g.met.F.Field.at_least)) (2 ^ (c.folds_left.result - 1)) c.args.level.now
    (c.folds_left.ensures.exact ∙ halves c.folds_left.result _ c.folds_left.ensures.exact c.requires)
