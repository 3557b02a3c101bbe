-- The next row stands in front of those that are left.
use Rattle.std.proofs.Common.{◌+◌, List, [], ◌∷◌, ◌++◌, map, sym, ap, ◌∙◌, append_assoc}
use Rattle.sip_field.specs.Elements.{m61_number}
use Rattle.sip_wire.specs.declared.message.Node.{Node}
use Rattle.sip_heavy.specs.Honest.{its_nodes, node_of}
use Rattle.sip_heavy.specs.Spots.{from_on}
use Rattle.sip_helper.proofs.ShownFrames.{front_found, last_found}
use Rattle.sip_helper.proofs.nodes.next_rows.Goals as goal

pub loop-node-preserved : goal.loop-node-preserved
loop-node-preserved g c =
    let s = c.args.prover.now in
    let row = g.T.ShownRow.row_of in
    let rows = c.loop-node.rows.items in
    let node = c.in-Some.node in
    let rest = map row (from_on (node.index + 1) (its_nodes s)) in
    c.loop-node.invariant
    ∙ ap (λ (l : List Node). rows ++ map row l) (front_found s (node_of m61_number) c.loop-node.next node c.next_node.result c.next_node.ensures.first c.in-Some.is)
    ∙ sym (append_assoc rows (row (node_of m61_number node) ∷ []) rest)
    ∙ ap (λ x. (rows ++ x ∷ []) ++ rest) (sym c.of_node.ensures)
    ∙ ap (λ l. l ++ rest) (sym c.push.ensures.items)

pub returns-clause-last : goal.returns-clause-last
returns-clause-last g c = λ _.
    ap (map g.T.ShownRow.row_of) (last_found c.args.prover.now (node_of m61_number) c.loop-node.next c.next_node.result c.next_node.ensures.first c.in_default.is)
