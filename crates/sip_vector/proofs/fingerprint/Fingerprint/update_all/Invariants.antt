-- This much is added.
use Rattle.std.proofs.Common.{◌≡◌, ◌+◌, ◌%◌, ◌^◌, take}
use Rattle.std.specs.List.{sum_by}
use Rattle.sip_vector.specs.Fingerprints.{share}
use Rattle.sip_vector.proofs.fingerprint.Fingerprint.update_all.Given as goal

abbrev pub invariant-loop-update : goal.invariant-loop-update
invariant-loop-update l = record {
  so_far : l.sum ≡ (l.fn.self + sum_by share (take l.update-index l.fn.updates)) % 2 ^ 64;
}
