-- The sum stays within that of all.
use Rattle.std.proofs.Common.{◌≡◌, ◌+◌, ◌<◌, length, pos, nat_abs, get_or, arith, rules}
use Rattle.sip_vector.specs.declared.update.Side.TheVariants.{First}
use Rattle.sip_vector.specs.declared.update.Update.{Update}
use Rattle.sip_sketch.proofs.Summed.{weighed-front, weighed-more}
use Rattle.sip_sketch.proofs.updating.weight_of.Goals as goal

pub overflow_add-weight : goal.overflow_add-weight
overflow_add-weight c =
    let us = c.args.updates.now in
    let i = c.loop-update.update-index in
    let d : Update = record { side = First; item = 0; delta = pos 0 } in
    let lt : i < length us = omega arith in
    let size : c.unsigned_abs-weight.result ≡ nat_abs (get_or us i d).delta = search rules in
    omega (arith, c.loop-update.invariant, weighed-more us i d lt, weighed-front us (i + 1), c.requires, size)

pub loop-update-preserved : goal.loop-update-preserved
loop-update-preserved c =
    let us = c.args.updates.now in
    let i = c.loop-update.update-index in
    let d : Update = record { side = First; item = 0; delta = pos 0 } in
    let lt : i < length us = omega arith in
    let size : c.unsigned_abs-weight.result ≡ nat_abs (get_or us i d).delta = search rules in
    omega (arith, c.loop-update.invariant, weighed-more us i d lt, size)
