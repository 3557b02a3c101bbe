-- The sum so far.
use Rattle.std.proofs.Common.{◌≡◌, nat_abs, sum_by, take}
use Rattle.sip_vector.specs.declared.update.Update.{Update}
use Rattle.sip_sketch.proofs.updating.weight_of.Given as goal

abbrev pub invariant-loop-update : goal.invariant-loop-update
invariant-loop-update l = l.weight ≡ sum_by (λ (u : Update). nat_abs u.delta) (take l.update-index l.updates)
