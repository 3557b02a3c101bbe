use Rattle.std.proofs.Common.{◌≡◌, ◌*◌, ◌≤◌}
use Rattle.sip_bench.proofs.vectors.vector.Given as goal

-- no delta is above 8
abbrev pub invariant-loop : goal.invariant-loop
invariant-loop g l = (l.vector.depth ≡ l.depth) × (l.vector.weight ≤ 8 * l.counter)
