use Rattle.std.proofs.Common.{◌≡◌, length}
use Rattle.sip_sums.specs.Checking.{zero_polynomial}
use Rattle.sip_sums.specs.Pairs.{pairs_of, summed}
use Rattle.sip_sums.specs.Polynomials.{coefficients_of}
use Rattle.sip_sums.proofs.pairs.squares.Given as goal

-- the pairs that are left lead to what all pairs lead to
abbrev pub invariant-loop-pair : goal.invariant-loop-pair
invariant-loop-pair g l =
    summed g.F.Field.MODULUS (λ s. s) (coefficients_of g.F.Field.number l.sums) (pairs_of g.F.Field.number l.rest)
    ≡ summed g.F.Field.MODULUS (λ s. s) zero_polynomial (pairs_of g.F.Field.number l.fn.spots)

abbrev pub decreases-loop-pair : goal.decreases-loop-pair
decreases-loop-pair g l = length l.rest
