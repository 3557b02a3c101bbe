use Rattle.std.proofs.Common.{◌≡◌, ◌≤◌}
use Rattle.sip_bench.proofs.moments.ones.Given as goal

-- each update so far has the weight 1
abbrev pub invariant-loop : goal.invariant-loop
invariant-loop l = (l.vector.depth ≡ l.depth) × (l.vector.weight ≤ l.counter)
