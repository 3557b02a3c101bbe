use Rattle.std.proofs.Common.{◌≡◌, ◌+ℤ◌, drop}
use Rattle.sip_sums.specs.Claims.{squares_sum}
use Rattle.sip_sums.proofs.ClaimWalks.{HasRoom}
use Rattle.sip_sums.proofs.claims.sum_of_squares.Given as goal

-- with the squares that are left the sum is that of all, and there is room for them
abbrev pub invariant-loop-entry : goal.invariant-loop-entry
invariant-loop-entry l = record {
  sum : l.sum +ℤ squares_sum (drop l.entry-index l.entries) ≡ squares_sum l.entries;
  room : HasRoom l.sum (drop l.entry-index l.entries);
}
