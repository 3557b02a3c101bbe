use Rattle.std.proofs.Common.{◌≡◌, ◌^◌, subst}
use Rattle.std.proofs.lemmas.Nat.{pow_pos}
use Rattle.std.proofs.lemmas.Result.{IfOk-weaker}
use Rattle.sip_vector.specs.inside.Gathered.{IsListOf}
use Rattle.sip_vector.specs.Vectors.{StoredVector, contents}
use Rattle.sip_vector.proofs.Gathers.{IsListOf-merged, IfOk_both}
use Rattle.sip_vector.proofs.vector.Vector.merged_list.Goals as goal

pub returns : goal.returns
returns c =
    let inside = c.self.inside in
    let same : c.in_ok-pending.pending.items ≡ inside.pending.items = c.in_ok-pending.ensures in
    let merged = rw (c.deref-2.ensures.value, c.deref.ensures, same) at c.settled.ensures.merged in
    let light = rw (c.deref-2.ensures.value, c.deref.ensures, same) at c.settled.ensures.light in
    IfOk-weaker c.settled.result _ _ (λ out h. subst (λ (v : StoredVector). IsListOf (contents v) out.items) c.self.view_is
    (IsListOf-merged inside.depth inside.list.value.items inside.pending.items inside.total inside.weight c.self.invariant out.items (h.0 (2 ^ inside.depth) (pow_pos inside.depth) c.self.invariant.sparse c.self.invariant.within) h.1))
    (IfOk_both _ _ c.settled.result merged light)
