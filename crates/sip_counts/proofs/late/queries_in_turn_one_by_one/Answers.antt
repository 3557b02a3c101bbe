use Rattle.std.proofs.Common.{refl}
use Rattle.sip_counts.specs.Joint.{is_misled}
use Rattle.sip_counts.specs.Late.{some_fooled}
use Rattle.sip_counts.proofs.late.queries_in_turn_one_by_one.Goals as goal

pub returns-clause-none : goal.returns-clause-none
unfolding is_misled some_fooled
returns-clause-none c = λ d strategy earlier v. refl

pub returns-clause-more : goal.returns-clause-more
unfolding is_misled some_fooled
returns-clause-more c = λ d strategy q queries earlier v. refl
