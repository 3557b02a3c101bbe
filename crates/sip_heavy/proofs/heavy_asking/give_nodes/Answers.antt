use Rattle.std.proofs.Common.{◌+◌, ℕ, [], ◌∷◌, drop, get_or, subst, arith}
use Rattle.std.proofs.lemmas.List.{drop_more, drop_all}
use Rattle.sip_field.specs.Moduli.{m61_modulus}
use Rattle.sip_wire.specs.declared.message.Node.{Node}
use Rattle.sip_heavy.specs.Checking.{Takes}
use Rattle.sip_heavy.proofs.Given.{Advances-again, front_more, front_refused, front_all}
use Rattle.sip_heavy.proofs.heavy_asking.give_nodes.Goals as goal

none : Node
none = record { index = 0; hash = 0; count = 0 }

pub returns-in_err-node-clause-answers : goal.returns-in_err-node-clause-answers
unfolding none
returns-in_err-node-clause-answers c =
    let rows = c.args.rows.now in
    let i = c.loop-row.row-index in
    front_refused m61_modulus c.args.check.now c.loop-row.check c.node.new.self rows (drop i rows) (get_or rows i none) (drop (i + 1) rows) _ _ c.in_err-node.field-0.0
    (drop_more rows i none c.loop-row-test.true) c.loop-row.invariant.front (subst (λ (h : ℕ). Takes m61_modulus c.loop-row.check (record { index = (get_or rows i none).index; hash = h; count = (get_or rows i none).count } ∷ []) c.node.new.self c.node.result) c.of_number.ensures c.node.ensures.answers) c.in_err-node.was c.from_residual.ensures.1

pub loop-row-preserved : goal.loop-row-preserved
unfolding none
loop-row-preserved c =
    let rows = c.args.rows.now in
    let i = c.loop-row.row-index in
    record {
      front = front_more m61_modulus c.args.check.now c.loop-row.check c.node.new.self rows (drop i rows) (get_or rows i none) (drop (i + 1) rows) _
          (drop_more rows i none c.loop-row-test.true) c.loop-row.invariant.front (subst (λ (h : ℕ). Takes m61_modulus c.loop-row.check (record { index = (get_or rows i none).index; hash = h; count = (get_or rows i none).count } ∷ []) c.node.new.self c.node.result) c.of_number.ensures c.node.ensures.answers) c.in_ok-node.was (omega (arith, c.node.ensures.advances.level));
      advances = Advances-again c.args.check.now c.loop-row.check c.node.new.self c.loop-row.invariant.advances c.node.ensures.advances;
      unspent = rw c.in_ok-node.was at c.node.ensures.spent;
    }

pub returns-clause-answers : goal.returns-clause-answers
returns-clause-answers c =
    let rows = c.args.rows.now in
    let i = c.loop-row.row-index in
    front_all m61_modulus c.args.check.now c.loop-row.check rows (drop i rows) (drop_all i rows (omega arith)) c.loop-row.invariant.front
