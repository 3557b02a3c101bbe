-- The next entry stands in front of those that are left.
use Rattle.std.proofs.Common.{rules, ◌+◌, ◌≤◌, List, [], ◌∷◌, ◌++◌, sym, ap, ◌∙◌, arith, append_assoc}
use Rattle.std.proofs.Math.Pow.{pow_mono}
use Rattle.sip_vector.specs.declared.update.Entry.{Entry}
use Rattle.sip_vector.specs.Vectors.{nonzero_within}
use Rattle.sip_vector.proofs.Walks.{nonzero_within-next, nonzero_within-last}
use Rattle.sip_helper.proofs.Rows.{first_within}
use Rattle.sip_helper.proofs.entries.next_rows.Goals as goal

pub overflow_add-next : goal.overflow_add-next
overflow_add-next c =
    let within : c.in-Some.entry.index ≤ c.args.hi = first_within c.loop-entry.next c.args.hi c.args.vector.now.numbers c.in-Some.entry (sym c.next_entry.ensures ∙ c.in-Some.is) in
    let room = pow_mono c.requires.deep in
    omega (arith, within, c.requires.within, room)

pub loop-entry-preserved : goal.loop-entry-preserved
loop-entry-preserved c =
    let rows = c.loop-entry.rows.items in
    let e = c.in-Some.entry in
    let rest = nonzero_within (e.index + 1) c.args.hi c.args.vector.now.numbers in (
      search rules,
      c.loop-entry.invariant.1
          ∙ ap (λ (l : List Entry). rows ++ l) (nonzero_within-next c.loop-entry.next c.args.hi c.args.vector.now.numbers e (sym c.next_entry.ensures ∙ c.in-Some.is))
          ∙ sym (append_assoc rows (e ∷ []) rest)
          ∙ ap (λ (l : List Entry). l ++ rest) (sym c.push.ensures.items),
    )

pub returns-clause-last : goal.returns-clause-last
returns-clause-last c = λ _. nonzero_within-last c.loop-entry.next c.args.hi c.args.vector.now.numbers (sym c.next_entry.ensures ∙ c.in_default.is)
