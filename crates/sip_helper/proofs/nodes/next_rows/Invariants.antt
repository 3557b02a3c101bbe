-- The rows stand in front of those that are left.
use Rattle.std.proofs.Common.{◌≡◌, ◌-◌, ◌++◌, map}
use Rattle.arrayvec.specs.ArrayVec.{array_vec_len}
use Rattle.sip_heavy.specs.Honest.{its_nodes}
use Rattle.sip_heavy.specs.Spots.{from_on}
use Rattle.sip_helper.proofs.nodes.next_rows.Given as goal

abbrev pub invariant-loop-node : goal.invariant-loop-node
invariant-loop-node g l =
    let row = g.T.ShownRow.row_of in
    map row (from_on l.fn.from (its_nodes l.prover)) ≡ l.rows.items ++ map row (from_on l.next (its_nodes l.prover))

abbrev pub decreases-loop-node : goal.decreases-loop-node
decreases-loop-node g l = g.row.CAP - array_vec_len l.rows
