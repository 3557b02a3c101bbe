use Rattle.std.proofs.Common.{refl}
use Rattle.sip_sums.proofs.Cube.{proving-more}
use Rattle.sip_sums.proofs.proving.provers_go_on.Goals as goal

pub returns-clause-begun : goal.returns-clause-begun
returns-clause-begun c p first second = refl

pub returns-clause-learnt : goal.returns-clause-learnt
returns-clause-learnt c = proving-more
