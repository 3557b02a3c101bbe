-- The rows stand in front of those that are left.
use Rattle.std.proofs.Common.{◌≡◌, ◌≤◌, ◌-◌, ◌++◌}
use Rattle.arrayvec.specs.ArrayVec.{array_vec_len}
use Rattle.sip_vector.specs.Vectors.{nonzero_within}
use Rattle.sip_helper.proofs.entries.next_rows.Given as goal

abbrev pub invariant-loop-entry : goal.invariant-loop-entry
invariant-loop-entry l = (array_vec_len l.rows ≤ 512) × (nonzero_within l.fn.from l.hi l.vector.numbers ≡ l.rows.items ++ nonzero_within l.next l.hi l.vector.numbers)

abbrev pub decreases-loop-entry : goal.decreases-loop-entry
decreases-loop-entry l = 512 - array_vec_len l.rows
