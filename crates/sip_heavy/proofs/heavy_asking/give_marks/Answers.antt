use Rattle.std.proofs.Common.{◌+◌, ◌∷◌, [], pos, drop, get_or, FitsSigned, Result, w64, of_z, to_z, ap, subst, arith, rules}
use Rattle.std.proofs.lemmas.Int.{to_z-of_z}
use Rattle.std.proofs.lemmas.List.{drop_more, drop_all}
use Rattle.sip_field.specs.Moduli.{m61_modulus}
use Rattle.sip_field.specs.Residue.{residue}
use Rattle.sip_wire.specs.declared.message.Mark.{Mark}
use Rattle.sip_wire.specs.declared.message.Reason.{Reason}
use Rattle.sip_heavy.specs.Checking.{Kept, Takes}
use Rattle.sip_heavy.specs.Protocol.{mark_node, mark_nodes}
use Rattle.sip_heavy.proofs.Given.{Advances-again, front_more, front_refused, front_all}
use Rattle.sip_heavy.proofs.heavy_asking.give_marks.Goals as goal

none : Mark
none = record { item = 0; value = pos 0; weight = 0 }

-- a mark was given, of a value of 64 bits
one_mark : (old new : Kept) (m : Mark) (result : Result (Unit {0}) Reason) → FitsSigned w64 m.value
    → Takes m61_modulus old (record { index = m.item; hash = residue m61_modulus (to_z w64 (of_z w64 m.value)); count = m.weight } ∷ []) new result → Takes m61_modulus old (mark_node m61_modulus m ∷ []) new result
one_mark old new m result fits takes = subst (λ z. Takes m61_modulus old (record { index = m.item; hash = residue m61_modulus z; count = m.weight } ∷ []) new result) (to_z-of_z w64 m.value fits) takes

pub returns-in_err-mark-clause-answers : goal.returns-in_err-mark-clause-answers
unfolding none
returns-in_err-mark-clause-answers c =
    let rows = c.args.rows.now in
    let i = c.loop-row.row-index in
    front_refused m61_modulus c.args.check.now c.loop-row.check c.mark.new.self (mark_nodes m61_modulus rows) (mark_nodes m61_modulus (drop i rows)) (mark_node m61_modulus (get_or rows i none)) (mark_nodes m61_modulus (drop (i + 1) rows)) _ _ c.in_err-mark.field-0.0
    (ap (mark_nodes m61_modulus) (drop_more rows i none c.loop-row-test.true)) c.loop-row.invariant.front (one_mark c.loop-row.check c.mark.new.self (get_or rows i none) _ (search rules) c.mark.ensures.answers) c.in_err-mark.was c.from_residual.ensures.1

pub loop-row-preserved : goal.loop-row-preserved
unfolding none
loop-row-preserved c =
    let rows = c.args.rows.now in
    let i = c.loop-row.row-index in
    record {
      front = front_more m61_modulus c.args.check.now c.loop-row.check c.mark.new.self (mark_nodes m61_modulus rows) (mark_nodes m61_modulus (drop i rows)) (mark_node m61_modulus (get_or rows i none)) (mark_nodes m61_modulus (drop (i + 1) rows)) _
          (ap (mark_nodes m61_modulus) (drop_more rows i none c.loop-row-test.true)) c.loop-row.invariant.front (one_mark c.loop-row.check c.mark.new.self (get_or rows i none) _ (search rules) c.mark.ensures.answers) c.in_ok-mark.was (omega (arith, c.mark.ensures.advances.level));
      advances = Advances-again c.args.check.now c.loop-row.check c.mark.new.self c.loop-row.invariant.advances c.mark.ensures.advances;
      unspent = rw c.in_ok-mark.was at c.mark.ensures.spent;
    }

pub returns-clause-answers : goal.returns-clause-answers
returns-clause-answers c =
    let rows = c.args.rows.now in
    let i = c.loop-row.row-index in
    front_all m61_modulus c.args.check.now c.loop-row.check (mark_nodes m61_modulus rows) (mark_nodes m61_modulus (drop i rows)) (ap (mark_nodes m61_modulus) (drop_all i rows (omega arith))) c.loop-row.invariant.front
