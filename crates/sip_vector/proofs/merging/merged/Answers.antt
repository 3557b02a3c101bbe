use Rattle.std.proofs.Common.{◌+ℤ◌, arith}
use Rattle.sip_vector.proofs.Kept.{fits, same_z}
use Rattle.sip_vector.proofs.Merges.{merging-init, merging-light, merging-same, merging-next, merging-shorter, merging-done, merging-done_light}
use Rattle.sip_vector.proofs.Sums.{nat_abs-add-le}
use Rattle.sip_vector.proofs.merging.merged.Goals as goal

pub loop-entry-init : goal.loop-entry-init
loop-entry-init c = rw c.in_ok-out.ensures.items (merging-init c.args.list.now c.args.added.now)

pub overflow_add-last : goal.overflow_add-last
overflow_add-last c =
    let light = merging-light _ _ _ _ _ _ _ _ _ c.loop-entry.invariant c.in-Some.ensures in
    let room = c.requires in
    rw (same_z c.loop-entry.last.value (omega (arith, light, room)), same_z c.in-Some.entry.value (omega (arith, light, room)))
    (fits _ (omega (arith, nat_abs-add-le c.loop-entry.last.value c.in-Some.entry.value, light, room)))

pub loop-entry-smaller-then-entry-last : goal.loop-entry-smaller-then-entry-last
loop-entry-smaller-then-entry-last c = merging-shorter _ _ _ _ _ _ _ _ _ c.loop-entry.invariant c.in-Some.ensures

pub loop-entry-preserved-then-entry-last : goal.loop-entry-preserved-then-entry-last
loop-entry-preserved-then-entry-last c =
    let light = merging-light _ _ _ _ _ _ _ _ _ c.loop-entry.invariant c.in-Some.ensures in
    let room = c.requires in
    rw (
      same_z c.loop-entry.last.value (omega (arith, light, room)),
      same_z c.in-Some.entry.value (omega (arith, light, room)),
      same_z (c.loop-entry.last.value +ℤ c.in-Some.entry.value) (omega (arith, nat_abs-add-le c.loop-entry.last.value c.in-Some.entry.value, light, room)),
    )
    (merging-same _ _ _ _ _ _ _ _ _ c.loop-entry.invariant c.in-Some.ensures c.if-entry-last.true)

pub loop-entry-smaller : goal.loop-entry-smaller
loop-entry-smaller c = merging-shorter _ _ _ _ _ _ _ _ _ c.loop-entry.invariant c.in-Some.ensures

pub loop-entry-preserved : goal.loop-entry-preserved
loop-entry-preserved c = rw c.in_ok-put.ensures (merging-next _ _ _ _ _ _ _ _ _ c.loop-entry.invariant c.in-Some.ensures c.if-entry-last.false)

pub returns-clause-merged : goal.returns-clause-merged
returns-clause-merged c =
    let so_far = rw (c.in_default.ensures.0, c.in_default.ensures.1) at c.loop-entry.invariant in
    rw c.in_ok-put-2.ensures (merging-done _ _ _ _ so_far)

pub returns-clause-light : goal.returns-clause-light
returns-clause-light c =
    let so_far = rw (c.in_default.ensures.0, c.in_default.ensures.1) at c.loop-entry.invariant in
    rw c.in_ok-put-2.ensures (merging-done_light _ _ _ _ so_far)
