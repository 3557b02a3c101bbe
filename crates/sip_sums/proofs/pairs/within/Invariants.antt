use Rattle.std.proofs.Common.{◌≡◌, ℕ, ◌*◌, ◌^◌, ◌≤◌, length}
use Rattle.sip_sums.specs.Checking.{zero_polynomial}
use Rattle.sip_sums.specs.Pairs.{pairs_of, pair_in, summed, Rises}
use Rattle.sip_sums.specs.Polynomials.{coefficients_of}
use Rattle.sip_sums.proofs.pairs.within.Given as goal

-- the pairs that are left lie within the interval's list, and lead to what all pairs lead to
abbrev pub invariant-loop-pair : goal.invariant-loop-pair
invariant-loop-pair g l = record {
  pairs : (n : ℕ) × (n ≤ 2 ^ 63) × (length l.fn.interval ≡ 2 * n) × Rises 0 n (pairs_of g.F.Field.number l.rest);
  sums : summed g.F.Field.MODULUS (λ s. pair_in l.fn.interval s.index) (coefficients_of g.F.Field.number l.sums) (pairs_of g.F.Field.number l.rest)
      ≡ summed g.F.Field.MODULUS (λ s. pair_in l.fn.interval s.index) zero_polynomial (pairs_of g.F.Field.number l.fn.spots);
}

abbrev pub decreases-loop-pair : goal.decreases-loop-pair
decreases-loop-pair g l = length l.rest
