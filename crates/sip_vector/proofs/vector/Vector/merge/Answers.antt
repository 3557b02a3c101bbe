use Rattle.std.proofs.Common.{◌^◌, refl, eqb, ap, Result, Ok, Err}
use Rattle.std.specs.Prelude.{OnErr}
use Rattle.std.proofs.lemmas.List.Sorted.{length_permutation}
use Rattle.std.proofs.lemmas.Nat.{pow_pos}
use Rattle.sip_vector.proofs.Gathers.{IsGathered-moved, IsGathered-merged, gathered-moved, gathered-merged, both-light}
use Rattle.sip_vector.proofs.Kept.{same_stored}
use Rattle.sip_vector.proofs.vector.Vector.merge.Goals as goal

pub settled-requires : goal.settled-requires
settled-requires c = rw (c.deref-3.ensures.value, c.deref-2.ensures) (both-light _ _ _ _ _ c.self.invariant)

on_err : {T E : Type 0} (r : Result T E) (P : Type 0) → P → OnErr r P
on_err (Ok x) P p = tt
on_err (Err e) P p = p

-- whether it is the list or its room that memory is wanted for, what is pending is in another order
pub invariant_of-self : goal.invariant_of-self
invariant_of-self c = IsGathered-moved _ _ _ _ _ c.self.invariant _ c.settled.ensures.permutation

pub returns-in_err-list-clause-err : goal.returns-in_err-list-clause-err
returns-in_err-list-clause-err c =
    rw (← c.self.view_is) (on_err _ _ (same_stored c.self.inside.depth _ _ _ _ _ _
    (gathered-moved _ _ _ _ _ c.self.invariant _ c.settled.ensures.permutation) refl
    (ap (λ n. eqb n 0) (length_permutation _ _ c.settled.ensures.permutation))))

pub invariant_of-self-in_err-self-inside : goal.invariant_of-self-in_err-self-inside
invariant_of-self-in_err-self-inside c = IsGathered-moved _ _ _ _ _ c.self.invariant _ c.settled.ensures.permutation

pub returns-in_err-self-inside-clause-err : goal.returns-in_err-self-inside-clause-err
returns-in_err-self-inside-clause-err c =
    rw (← c.self.view_is) (on_err _ _ (same_stored c.self.inside.depth _ _ _ _ _ _
    (gathered-moved _ _ _ _ _ c.self.invariant _ c.settled.ensures.permutation) refl
    (ap (λ n. eqb n 0) (length_permutation _ _ c.settled.ensures.permutation))))

pub invariant_of-self-2 : goal.invariant_of-self-2
invariant_of-self-2 c =
    let inside = c.self.inside in
    let done = rw (c.deref-3.ensures.value, c.deref-2.ensures) at c.in_ok-list.ensures.merged in
    let light = rw (c.deref-3.ensures.value, c.deref-2.ensures) at c.in_ok-list.ensures.light in
    rw (c.clear.ensures, c.in_ok-self-inside.ensures.ok)
    (IsGathered-merged inside.depth inside.list.value.items inside.pending.items inside.total inside.weight c.self.invariant c.in_ok-list.list.items (done (2 ^ inside.depth) (pow_pos inside.depth) c.self.invariant.sparse c.self.invariant.within) light)

pub returns-clause-ok : goal.returns-clause-ok
returns-clause-ok c =
    let inside = c.self.inside in
    let done = rw (c.deref-3.ensures.value, c.deref-2.ensures) at c.in_ok-list.ensures.merged in
    let light = rw (c.deref-3.ensures.value, c.deref-2.ensures) at c.in_ok-list.ensures.light in
    rw (← c.self.view_is) (same_stored inside.depth _ _ _ _ _ _ (rw (c.clear.ensures, c.in_ok-self-inside.ensures.ok)
    (gathered-merged inside.depth inside.list.value.items inside.pending.items inside.total inside.weight c.self.invariant c.in_ok-list.list.items (done (2 ^ inside.depth) (pow_pos inside.depth) c.self.invariant.sparse c.self.invariant.within) light)) refl (rw c.clear.ensures refl))
