use Rattle.std.proofs.Common.{arith}
use Rattle.sip_counts.specs.Strategies.{takes_wrong}
use Rattle.sip_counts.specs.Late.{unasked}
use Rattle.sip_counts.proofs.AnyOrder.{never_fooled}
use Rattle.sip_counts.proofs.Vectors.{counted-none}
use Rattle.sip_counts.proofs.late.unused_seats_fool_nobody.Goals as goal

pub returns-clause-never : goal.returns-clause-never
returns-clause-never c = never_fooled

pub returns-clause-bound : goal.returns-clause-bound
returns-clause-bound c = λ p d strategy bytes.
    omega (arith, counted-none p d (takes_wrong unasked.accepts unasked.is_right strategy) (λ v _. never_fooled strategy v))
