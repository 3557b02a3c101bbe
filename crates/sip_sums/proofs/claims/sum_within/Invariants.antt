use Rattle.std.proofs.Common.{◌≡◌, ◌+◌, ◌≤◌, ◌+ℤ◌, nat_abs, drop}
use Rattle.sip_vector.specs.Streams.{most_weight}
use Rattle.sip_vector.specs.inside.Gathered.{abs_sum}
use Rattle.sip_sums.specs.Claims.{range_sum}
use Rattle.sip_sums.proofs.claims.sum_within.Given as goal

-- with the values that are left the sum is that of all, and there is room for them
abbrev pub invariant-loop-entry : goal.invariant-loop-entry
invariant-loop-entry l = record {
  sum : l.sum +ℤ range_sum l.lo l.hi (drop l.entry-index l.entries) ≡ range_sum l.lo l.hi l.entries;
  room : nat_abs l.sum + abs_sum (drop l.entry-index l.entries) ≤ most_weight;
}
