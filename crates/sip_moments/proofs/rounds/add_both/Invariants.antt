use Rattle.std.proofs.Common.{◌≡◌, ℕ, ◌+◌, ◌%◌, ◌^◌, ◌<◌, length}
use Rattle.sip_sums.specs.Pairs.{neighbours_of}
use Rattle.sip_moments.specs.Powers.{mixed}
use Rattle.sip_moments.proofs.Places.{at, AreSameFrom}
use Rattle.sip_moments.proofs.rounds.add_both.Given as goal

-- the sums so far have what the pair counts, and the others are as they were
abbrev pub invariant-loop-place : goal.invariant-loop-place
invariant-loop-place g l = record {
  long : length l.sums ≡ length l.fn.sums;
  done : (j : ℕ) → j < l.place → at g.F.Field.number l.sums j
      ≡ (at g.F.Field.number l.fn.sums j + mixed l.fn.degree j (neighbours_of g.F.Field.number l.pair)) % g.F.Field.MODULUS;
  rest : AreSameFrom g.F.Field.number l.place l.sums l.fn.sums;
  right : g.F.Field.number l.right ≡ (g.F.Field.number l.pair.right ^ l.place) % g.F.Field.MODULUS;
}
