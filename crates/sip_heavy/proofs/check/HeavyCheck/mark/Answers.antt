use Rattle.std.proofs.Common.{◌≡◌, ℕ, IfOk, w64, of_z, to_z, ap, subst, sym, ◌∙◌}
use Rattle.std.proofs.lemmas.Int.{to_z-of_z}
use Rattle.sip_field.specs.Residue.{residue}
use Rattle.sip_wire.specs.declared.message.Node.{Node}
use Rattle.sip_heavy.specs.Checking.{Kept, passing, with_node, node_test}
use Rattle.sip_heavy.proofs.Taking.{node_answers}
use Rattle.sip_heavy.proofs.check.HeavyCheck.mark.Goals as goal

pub returns-clause-answers : goal.returns-clause-answers
returns-clause-answers g c q root challenges given taken =
    let old = c.args.self.now in
    let i = c.args.item in
    let w = c.args.weight in
    let kept : to_z w64 (of_z w64 c.args.value) ≡ c.args.value = to_z-of_z w64 c.args.value c.ranges.value in
    let hash = c.number.ensures ∙ c.of_signed.ensures ∙ ap (residue g.F.Field.MODULUS) kept in
    let x : Node = record { index = i; hash = residue g.F.Field.MODULUS c.args.value; count = w } in
    let tested = subst (λ (h : ℕ). c.take-taken.result ≡ node_test (passing old i) (record { index = i; hash = h; count = w })) hash c.take-taken.ensures.tested in
    let same = subst (λ (h : ℕ). IfOk c.take-taken.result (λ _. c.take-taken.new.self ≡ with_node (passing old i) (record { index = i; hash = h; count = w }))) hash c.take-taken.ensures.taken in
    node_answers g.F.Field.MODULUS q root challenges given old taken x c.take-taken.result _ _ tested
    (subst (λ (k : Kept). IfOk c.take-taken.result (λ _. k ≡ with_node (passing old i) x)) (sym c.self.view_is) same)
