-- What is gathered are the updates of the side.
use Rattle.std.proofs.Common.{◌≡◌, ◌<◌, ◌≤◌, ◌+◌, ◌^◌, List, nat_abs, ap, sym, subst, ◌∙◌}
use Rattle.std.specs.Prelude.{All, OnOk, fold, sum_by}
use Rattle.std.proofs.lemmas.List.Elements.{All-filter}
use Rattle.sip_vector.specs.declared.update.Update.{Update}
use Rattle.sip_vector.specs.Streams.{most_weight, same_side}
use Rattle.sip_vector.specs.Vectors.{SideVector, contents}
use Rattle.sip_helper.specs.inside.Adding.{with_own}
use Rattle.sip_helper.proofs.LegalUpdates.{fold_of_side}
use Rattle.sip_helper.proofs.vectors.add_side.Goals as goal

pub add_all-requires-clause-items : goal.add_all-requires-clause-items
add_all-requires-clause-items c =
    let Fits : Update → Type 0 = λ u. u.item < 2 ^ c.args.vector.now.depth in
    subst (All Fits) (sym c.take_side-count.ensures.taken)
    (All-filter (λ (u : Update). same_side u.side c.args.side) Fits c.args.updates.now c.requires.items)

pub add_all-requires-clause-light : goal.add_all-requires-clause-light
add_all-requires-clause-light c =
    subst (λ (l : List Update). c.args.vector.now.weight + sum_by (λ (u : Update). nat_abs u.delta) l ≤ most_weight) (sym c.take_side-count.ensures.taken) c.requires.light

pub returns : goal.returns
returns c =
    let was = contents c.args.vector.now in
    subst (λ (v : SideVector). OnOk c.add_all.result (contents c.add_all.new.vector ≡ v))
    (ap (fold with_own was) c.take_side-count.ensures.taken ∙ fold_of_side c.args.side was c.args.updates.now) c.add_all.ensures
