use Rattle.std.proofs.Common.{refl}
use Rattle.sip_moments.proofs.MomentCube.{proving-more}
use Rattle.sip_moments.proofs.proving.provers_go_on.Goals as goal

pub returns : goal.returns
returns c = record { begun = λ p k numbers. refl; learnt = proving-more }
