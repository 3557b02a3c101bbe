-- Those of what came so far.
use Rattle.std.proofs.Common.{◌≡◌, take}
use Rattle.sip_vector.specs.Tallies.{either, negatives}
use Rattle.sip_vector.proofs.tally.Negatives.update_all.Given as goal

abbrev pub invariant-loop-update : goal.invariant-loop-update
invariant-loop-update l = record {
  so_far : l.negatives ≡ either l.fn.self (negatives (take l.update-index l.fn.updates));
}
