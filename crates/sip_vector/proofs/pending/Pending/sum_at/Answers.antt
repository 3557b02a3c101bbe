-- Those at the index, where they are sorted.
use Rattle.std.proofs.Common.{◌≡◌, ◌∙◌, ◌≤◌, filter, sym, ap, subst, rules, arith, w64}
use Rattle.std.proofs.lemmas.Int.{to_z-of_z}
use Rattle.sip_vector.specs.declared.update.Entry.{Entry}
use Rattle.sip_vector.specs.Answers.{is_within}
use Rattle.sip_vector.specs.Streams.{most_weight}
use Rattle.sip_vector.specs.inside.Gathered.{abs_sum, sum_at}
use Rattle.sip_vector.specs.inside.Waits.{Additions}
use Rattle.sip_vector.proofs.Pendings.{abs_sum-filter, sum_at-run}
use Rattle.sip_vector.proofs.pending.Pending.sum_at.Goals as goal

pub sum_of-requires : goal.sum_of-requires
sum_of-requires c =
    let all = c.self.inside.additions.items in
    let run : c.run_at.result.now ≡ filter (λ (e : Entry). is_within c.args.index c.args.index e.index) all = (rw c.deref.ensures.value at c.run_at.ensures) (c.self.invariant c.if-self.true) in
    let light : abs_sum all ≤ most_weight = subst (λ (p : Additions). abs_sum p.items ≤ most_weight) (sym c.self.view_is) c.requires in
    rw run (omega (arith, abs_sum-filter (λ (e : Entry). is_within c.args.index c.args.index e.index) all, light))

pub returns-then-self : goal.returns-then-self
returns-then-self c =
    let all = c.self.inside.additions.items in
    let run : c.run_at.result.now ≡ filter (λ (e : Entry). is_within c.args.index c.args.index e.index) all = (rw c.deref.ensures.value at c.run_at.ensures) (c.self.invariant c.if-self.true) in
    rw (← c.self.view_is) (to_z-of_z w64 c.sum_of.result (search rules) ∙ c.sum_of.ensures ∙ ap (λ es. sum_at es c.args.index) run ∙ sum_at-run all c.args.index)
