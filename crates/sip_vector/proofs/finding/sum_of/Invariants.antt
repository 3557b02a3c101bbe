use Rattle.std.proofs.Common.{◌≡◌, ◌≤◌, take, nat_abs}
use Rattle.sip_vector.specs.inside.Gathered.{sum_at, abs_sum}
use Rattle.sip_vector.proofs.finding.sum_of.Given as goal

-- the sum so far
abbrev pub invariant-loop-waiting : goal.invariant-loop-waiting
invariant-loop-waiting l = record {
  sum : l.sum ≡ sum_at (take l.waiting-index l.entries) l.index;
  light : nat_abs l.sum ≤ abs_sum (take l.waiting-index l.entries);
}
