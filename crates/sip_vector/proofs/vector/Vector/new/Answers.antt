use Rattle.std.proofs.Common.{refl}
use Rattle.sip_vector.proofs.Gathers.{IsGathered-nil, gathered-nil}
use Rattle.sip_vector.proofs.Kept.{same_parts}
use Rattle.sip_vector.proofs.vector.Vector.new.Goals as goal

pub invariant_of-result : goal.invariant_of-result
invariant_of-result c = rw (c.in_ok-new.ensures.ok, c.new.ensures.items, c.new-3.ensures) (IsGathered-nil c.args.depth)

pub returns : goal.returns
returns c = record {
  zeros = same_parts c.args.depth _ _ 0 0 (rw (c.in_ok-new.ensures.ok, c.new.ensures.items, c.new-3.ensures) (gathered-nil c.args.depth)) refl;
  settled = rw c.new-3.ensures refl;
}
