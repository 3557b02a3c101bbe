use Rattle.std.proofs.Common.{◌≡◌, ◌^◌, ◌<◌, ◌+ℤ◌, sym, subst, arith}
use Rattle.sip_vector.specs.Vectors.{StoredVector}
use Rattle.sip_vector.specs.inside.Gathered.{sum_at}
use Rattle.sip_vector.proofs.Gathers.{get_or-gathered, sums-light, number-light}
use Rattle.sip_vector.proofs.Kept.{fits, same_z}
use Rattle.sip_vector.proofs.vector.Vector.get.Goals as goal

pub overflow_add-result : goal.overflow_add-result
overflow_add-result c =
    let list : c.value_in.result ≡ sum_at c.self.inside.list.value.items c.args.index = (rw (c.deref-2.ensures.value, c.deref.ensures) at c.value_in.ensures) (2 ^ c.self.inside.depth) c.self.invariant.sparse in
    let pending : c.sum_at.result ≡ sum_at c.self.inside.pending.items c.args.index = c.sum_at.ensures in
    let light = sums-light _ _ _ _ _ c.self.invariant c.args.index in
    let all = number-light _ _ _ _ _ c.self.invariant c.args.index in
    let most = c.self.invariant.most in
    rw (list, pending, same_z (sum_at c.self.inside.list.value.items c.args.index) (omega (arith, light, most)), same_z (sum_at c.self.inside.pending.items c.args.index) (omega (arith, light, most)))
    (fits _ (omega (arith, all, most)))

pub returns-clause-same : goal.returns-clause-same
returns-clause-same c =
    let below : c.args.index < 2 ^ c.self.inside.depth = subst (λ (v : StoredVector). c.args.index < 2 ^ v.depth) (sym c.self.view_is) c.requires in
    let list : c.value_in.result ≡ sum_at c.self.inside.list.value.items c.args.index = (rw (c.deref-2.ensures.value, c.deref.ensures) at c.value_in.ensures) (2 ^ c.self.inside.depth) c.self.invariant.sparse in
    let pending : c.sum_at.result ≡ sum_at c.self.inside.pending.items c.args.index = c.sum_at.ensures in
    let light = sums-light _ _ _ _ _ c.self.invariant c.args.index in
    let all = number-light _ _ _ _ _ c.self.invariant c.args.index in
    let most = c.self.invariant.most in
    let a = sum_at c.self.inside.list.value.items c.args.index in
    let b = sum_at c.self.inside.pending.items c.args.index in
    rw (← c.self.view_is, list, pending, same_z a (omega (arith, light, most)), same_z b (omega (arith, light, most)), same_z (a +ℤ b) (omega (arith, all, most)))
    (sym (get_or-gathered c.self.inside.depth c.args.index c.self.inside.list.value.items c.self.inside.pending.items c.self.invariant.sparse below))

pub returns-clause-light : goal.returns-clause-light
returns-clause-light c =
    let list : c.value_in.result ≡ sum_at c.self.inside.list.value.items c.args.index = (rw (c.deref-2.ensures.value, c.deref.ensures) at c.value_in.ensures) (2 ^ c.self.inside.depth) c.self.invariant.sparse in
    let pending : c.sum_at.result ≡ sum_at c.self.inside.pending.items c.args.index = c.sum_at.ensures in
    let light = sums-light _ _ _ _ _ c.self.invariant c.args.index in
    let all = number-light _ _ _ _ _ c.self.invariant c.args.index in
    let most = c.self.invariant.most in
    let a = sum_at c.self.inside.list.value.items c.args.index in
    let b = sum_at c.self.inside.pending.items c.args.index in
    rw (← c.self.view_is, list, pending, same_z a (omega (arith, light, most)), same_z b (omega (arith, light, most)), same_z (a +ℤ b) (omega (arith, all, most))) all
