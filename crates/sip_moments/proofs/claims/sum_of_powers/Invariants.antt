use Rattle.std.proofs.Common.{◌≡◌, ◌+ℤ◌, drop}
use Rattle.sip_moments.specs.Powers.{powers_of}
use Rattle.sip_moments.proofs.PowerSums.{HasRoom}
use Rattle.sip_moments.proofs.claims.sum_of_powers.Given as goal

-- with the powers that are left the sum is that of all, and there is room for them
abbrev pub invariant-loop-entry : goal.invariant-loop-entry
invariant-loop-entry l = record {
  sum : l.sum +ℤ powers_of l.degree (drop l.entry-index l.entries) ≡ powers_of l.degree l.entries;
  room : HasRoom l.degree l.sum (drop l.entry-index l.entries);
}
