use Rattle.std.proofs.Common.{◌≡◌, ◌-◌, ◌%◌, ◌^◌, length, drop}
use Rattle.sip_vector.specs.Extensions.{ext, ones}
use Rattle.sip_mle.proofs.Folding.{Residues}
use Rattle.sip_mle.proofs.Weighing.{weigh}
use Rattle.sip_mle.proofs.interval.interval_at.Given as goal

-- the list has one entry for each path through the levels that are left, and keeps its extension
abbrev pub invariant-loop-below : goal.invariant-loop-below
invariant-loop-below g l =
    let p = g.F.Field.MODULUS in
    record {
      whole : length l.interval ≡ 2 ^ (length l.seat - l.below);
      residues : Residues p l.interval;
      same : weigh p (drop l.below l.seat) 0 l.interval % p ≡ ext p (ones (length l.seat) l.lo l.hi) l.seat;
    }
