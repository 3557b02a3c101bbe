use Rattle.std.proofs.Common.{◌≡◌, ℕ, ◌*◌, ◌%◌, ◌<◌, length}
use Rattle.sip_moments.specs.Honest.{binomial}
use Rattle.sip_moments.proofs.Places.{at, AreSameFrom}
use Rattle.sip_moments.proofs.rounds.weigh.Given as goal

-- the numbers so far are weighed, the others are as they were, and the next weight is at hand
abbrev pub invariant-loop-place : goal.invariant-loop-place
invariant-loop-place g l = record {
  long : length l.sums ≡ length l.fn.sums;
  done : (j : ℕ) → j < l.place → at g.F.Field.number l.sums j ≡ (binomial l.degree j * at g.F.Field.number l.fn.sums j) % g.F.Field.MODULUS;
  rest : AreSameFrom g.F.Field.number l.place l.sums l.fn.sums;
  sets : l.sets ≡ binomial l.degree l.place;
}
