use Rattle.std.proofs.Common.{◌^◌, ◌+◌, ◌<◌, ◌≤◌, ◌+ℤ◌, nat_abs, refl, sym, subst, arith}
use Rattle.std.proofs.Math.Nat.{pow-le-pow_right}
use Rattle.sip_vector.specs.Vectors.{StoredVector}
use Rattle.sip_vector.specs.Streams.{most_weight}
use Rattle.sip_vector.proofs.Gathers.{total-light}
use Rattle.sip_vector.proofs.Kept.{fits, same_z, same_parts}
use Rattle.sip_vector.proofs.Sums.{nat_abs-add-le}
use Rattle.sip_vector.proofs.Waits.{gathered-added, IsGathered-added, some_wait}
use Rattle.sip_vector.proofs.vector.Vector.put.Goals as goal

pub wait-requires-clause-within : goal.wait-requires-clause-within
wait-requires-clause-within c =
    let below : c.args.index < 2 ^ c.self.inside.depth = subst (λ (v : StoredVector). c.args.index < 2 ^ v.depth) (sym c.self.view_is) c.requires.within in
    let most : 2 ^ c.self.inside.depth ≤ 2 ^ 48 = (let two : 0 < 2 = omega arith in pow-le-pow_right two (rw c.get.ensures.same at c.get.ensures.most)) in
    omega (arith, below, most)

pub overflow_add-self : goal.overflow_add-self
overflow_add-self c =
    let room : c.self.inside.weight + nat_abs c.args.delta ≤ most_weight = subst (λ (v : StoredVector). v.weight + nat_abs c.args.delta ≤ most_weight) (sym c.self.view_is) c.requires.light in
    let light : nat_abs c.self.inside.total ≤ c.self.inside.weight = total-light _ _ _ _ _ c.self.invariant in
    rw (same_z c.self.inside.total (omega (arith, light, room)), same_z c.args.delta (omega (arith, room)))
    (fits _ (omega (arith, nat_abs-add-le c.self.inside.total c.args.delta, light, room)))

pub invariant_of-self-2 : goal.invariant_of-self-2
invariant_of-self-2 c =
    let below : c.args.index < 2 ^ c.self.inside.depth = subst (λ (v : StoredVector). c.args.index < 2 ^ v.depth) (sym c.self.view_is) c.requires.within in
    let room : c.self.inside.weight + nat_abs c.args.delta ≤ most_weight = subst (λ (v : StoredVector). v.weight + nat_abs c.args.delta ≤ most_weight) (sym c.self.view_is) c.requires.light in
    let light : nat_abs c.self.inside.total ≤ c.self.inside.weight = total-light _ _ _ _ _ c.self.invariant in
    let added = rw (same_z c.args.delta (omega (arith, room))) at c.in_ok-wait.ensures.ok in
    rw (
      c.unsigned_abs.ensures.value,
      same_z c.args.delta (omega (arith, room)),
      same_z c.self.inside.total (omega (arith, light, room)),
      same_z (c.self.inside.total +ℤ c.args.delta) (omega (arith, nat_abs-add-le c.self.inside.total c.args.delta, light, room)),
    )
    (IsGathered-added _ _ _ _ _ c.self.invariant c.args.index c.args.delta below room _ added)

pub returns-clause-ok : goal.returns-clause-ok
returns-clause-ok c =
    let below : c.args.index < 2 ^ c.self.inside.depth = subst (λ (v : StoredVector). c.args.index < 2 ^ v.depth) (sym c.self.view_is) c.requires.within in
    let room : c.self.inside.weight + nat_abs c.args.delta ≤ most_weight = subst (λ (v : StoredVector). v.weight + nat_abs c.args.delta ≤ most_weight) (sym c.self.view_is) c.requires.light in
    let added = rw (same_z c.args.delta (omega (arith, room))) at c.in_ok-wait.ensures.ok in
    rw (← c.self.view_is) (same_parts c.self.inside.depth _ _ _ _
    (gathered-added _ _ _ _ _ c.self.invariant c.args.index c.args.delta below room _ added)
    (rw (c.unsigned_abs.ensures.value, same_z c.args.delta (omega (arith, room))) refl))

pub returns-clause-pending : goal.returns-clause-pending
returns-clause-pending c = some_wait _ c.in_ok-wait.ensures.ok.some
