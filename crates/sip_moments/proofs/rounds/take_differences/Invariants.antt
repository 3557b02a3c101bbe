use Rattle.std.proofs.Common.{◌≡◌, ℕ, length, map}
use Rattle.sip_moments.specs.Powers.{AreDifferences, AreResidues}
use Rattle.sip_moments.proofs.MixedSums.{AreRows}
use Rattle.sip_moments.proofs.Places.{at}
use Rattle.sip_moments.proofs.rounds.take_differences.Given as goal

-- the places before the row have their last differences, and the others those of the row before
abbrev pub invariant-loop-row : goal.invariant-loop-row
invariant-loop-row g l = record {
  long : length l.sums ≡ length l.fn.sums;
  rows : (table : ℕ → ℕ → ℕ) → AreDifferences g.F.Field.MODULUS (length l.fn.sums) table
      → AreResidues g.F.Field.MODULUS (length l.fn.sums) (table 0) (map g.F.Field.number l.fn.sums)
      → AreRows g.F.Field.MODULUS (length l.fn.sums) l.row table (at g.F.Field.number l.sums);
}
