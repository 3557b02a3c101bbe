use Rattle.std.proofs.Common.{◌≡◌, ℕ, ◌+◌, ◌%◌, ◌<◌, length, sum_by}
use Rattle.sip_sums.specs.Pairs.{pairs_of}
use Rattle.sip_moments.specs.Powers.{mixed}
use Rattle.sip_moments.proofs.Places.{at}
use Rattle.sip_moments.proofs.rounds.fill_sums.Given as goal

-- with what the pairs that are left count, each sum is that of all pairs
abbrev pub invariant-loop-pair : goal.invariant-loop-pair
invariant-loop-pair g l = record {
  long : length l.sums ≡ length l.fn.sums;
  sums : (j : ℕ) → j < l.degree → (at g.F.Field.number l.sums j + sum_by (mixed l.degree j) (pairs_of g.F.Field.number l.rest)) % g.F.Field.MODULUS
      ≡ sum_by (mixed l.degree j) (pairs_of g.F.Field.number l.fn.spots) % g.F.Field.MODULUS;
}

abbrev pub decreases-loop-pair : goal.decreases-loop-pair
decreases-loop-pair g l = length l.rest
