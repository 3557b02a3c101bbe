use Rattle.std.proofs.Common.{◌+◌, drop, get_or, ap, arith}
use Rattle.std.proofs.lemmas.List.{drop_more, drop_all}
use Rattle.sip_field.specs.Moduli.{m61_modulus}
use Rattle.sip_wire.specs.declared.message.Leaf.{Leaf}
use Rattle.sip_heavy.specs.AcceptsHeavy.{leaf_node}
use Rattle.sip_heavy.specs.Protocol.{leaf_nodes}
use Rattle.sip_heavy.proofs.Given.{Advances-again, front_more, front_refused, front_all}
use Rattle.sip_heavy.proofs.heavy_asking.give_leaves.Goals as goal

none : Leaf
none = record { item = 0; count = 0 }

pub returns-in_err-leaf-clause-answers : goal.returns-in_err-leaf-clause-answers
unfolding none
returns-in_err-leaf-clause-answers c =
    let rows = c.args.rows.now in
    let i = c.loop-row.row-index in
    front_refused m61_modulus c.args.check.now c.loop-row.check c.leaf.new.self (leaf_nodes rows) (leaf_nodes (drop i rows)) (leaf_node (get_or rows i none).item (get_or rows i none).count) (leaf_nodes (drop (i + 1) rows)) _ _ c.in_err-leaf.field-0.0
    (ap leaf_nodes (drop_more rows i none c.loop-row-test.true)) c.loop-row.invariant.front c.leaf.ensures.answers c.in_err-leaf.was c.from_residual.ensures.1

pub loop-row-preserved : goal.loop-row-preserved
unfolding none
loop-row-preserved c =
    let rows = c.args.rows.now in
    let i = c.loop-row.row-index in
    record {
      front = front_more m61_modulus c.args.check.now c.loop-row.check c.leaf.new.self (leaf_nodes rows) (leaf_nodes (drop i rows)) (leaf_node (get_or rows i none).item (get_or rows i none).count) (leaf_nodes (drop (i + 1) rows)) _
          (ap leaf_nodes (drop_more rows i none c.loop-row-test.true)) c.loop-row.invariant.front c.leaf.ensures.answers c.in_ok-leaf.was (omega (arith, c.leaf.ensures.advances.level));
      advances = Advances-again c.args.check.now c.loop-row.check c.leaf.new.self c.loop-row.invariant.advances c.leaf.ensures.advances;
      unspent = rw c.in_ok-leaf.was at c.leaf.ensures.spent;
    }

pub returns-clause-answers : goal.returns-clause-answers
returns-clause-answers c =
    let rows = c.args.rows.now in
    let i = c.loop-row.row-index in
    front_all m61_modulus c.args.check.now c.loop-row.check (leaf_nodes rows) (leaf_nodes (drop i rows)) (ap leaf_nodes (drop_all i rows (omega arith))) c.loop-row.invariant.front
