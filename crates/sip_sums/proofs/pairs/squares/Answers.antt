use Rattle.std.proofs.Common.{refl}
use Rattle.sip_sums.proofs.pairs.squares.Goals as goal

pub loop-pair-init : goal.loop-pair-init
loop-pair-init g c = rw c.zero-sums.ensures refl

pub loop-pair-smaller : goal.loop-pair-smaller
loop-pair-smaller g c = c.in-Some.ensures.shorter

pub loop-pair-preserved : goal.loop-pair-preserved
loop-pair-preserved g c = rw c.with_square-sums.ensures (rw c.in-Some.ensures.pairs at c.loop-pair.invariant)

pub returns : goal.returns
returns g c = rw c.in_default.ensures at c.loop-pair.invariant
