use Rattle.std.proofs.Common.{◌≡◌, ℕ, ◌-◌, ◌<◌, ◌≤◌, length}
use Rattle.sip_field.specs.Residue.{difference_mod}
use Rattle.sip_moments.proofs.Places.{at, AreSameFrom}
use Rattle.sip_moments.proofs.rounds.take_row.Given as goal

-- the numbers so far are differences, and the others are as they were
abbrev pub invariant-loop-place : goal.invariant-loop-place
invariant-loop-place g l = record {
  long : length l.sums ≡ length l.fn.sums;
  kept : (j : ℕ) → j < l.row → at g.F.Field.number l.sums j ≡ at g.F.Field.number l.fn.sums j;
  done : (j : ℕ) → l.row ≤ j → j < l.place → at g.F.Field.number l.sums j
      ≡ difference_mod g.F.Field.MODULUS (at g.F.Field.number l.fn.sums j) (at g.F.Field.number l.fn.sums (j - 1));
  rest : AreSameFrom g.F.Field.number l.place l.sums l.fn.sums;
  before : g.F.Field.number l.before ≡ at g.F.Field.number l.fn.sums (l.place - 1);
}
