use Rattle.std.proofs.Common.{◌≡◌, length, map}
use Rattle.sip_moments.specs.Powers.{AreResidues}
use Rattle.sip_moments.proofs.rounds.fill_zeros.Given as goal

-- the places so far are zeros
abbrev pub invariant-loop-place : goal.invariant-loop-place
invariant-loop-place g l = record {
  long : length l.sums ≡ length l.fn.sums;
  zeros : AreResidues g.F.Field.MODULUS l.place (λ j. 0) (map g.F.Field.number l.sums);
}
