use Rattle.std.proofs.Common.{◌≡◌, ◌+◌, ◌-◌, ◌≤◌, ◌++◌}
use Rattle.sip_vector.specs.Vectors.{nonzero, nonzero_within}
use Rattle.sip_subvec.proofs.nodes.walked.Given as goal

-- those so far and those that are left are all
abbrev pub invariant-loop-entry : goal.invariant-loop-entry
invariant-loop-entry l = record {
  all : l.list.items ++ nonzero_within l.at l.hi l.fn.vector.numbers ≡ nonzero l.fn.vector.numbers;
  within : l.at ≤ l.hi + 1;
}

abbrev pub decreases-loop-entry : goal.decreases-loop-entry
decreases-loop-entry l = l.hi + 1 - l.at
