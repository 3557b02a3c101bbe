use Rattle.std.proofs.Common.{◌≡◌, ℕ, ◌+◌, length}
use Rattle.sip_sums.specs.Checking.{zero_polynomial}
use Rattle.sip_sums.specs.Pairs.{pairs_of, Rises}
use Rattle.sip_sums.specs.Polynomials.{coefficients_of}
use Rattle.sip_sums.proofs.PairWalks.{joined}
use Rattle.sip_sums.proofs.pairs.products.Given as goal

-- the pairs that are left of both lists rise, and lead to what all pairs lead to
abbrev pub invariant-loop-one : goal.invariant-loop-one
invariant-loop-one g l =
    (n : ℕ) → Rises 0 n (pairs_of g.F.Field.number l.fn.first) → Rises 0 n (pairs_of g.F.Field.number l.fn.second)
    → Rises 0 n (pairs_of g.F.Field.number l.first) × Rises 0 n (pairs_of g.F.Field.number l.second)
    × (joined g.F.Field.MODULUS (pairs_of g.F.Field.number l.second) (coefficients_of g.F.Field.number l.sums) (pairs_of g.F.Field.number l.first)
    ≡ joined g.F.Field.MODULUS (pairs_of g.F.Field.number l.fn.second) zero_polynomial (pairs_of g.F.Field.number l.fn.first))

abbrev pub decreases-loop-one : goal.decreases-loop-one
decreases-loop-one g l = length l.first + length l.second
