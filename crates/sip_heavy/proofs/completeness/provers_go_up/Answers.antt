use Rattle.std.proofs.Common.{refl}
use Rattle.sip_heavy.proofs.HonestReplies.{leaves-push}
use Rattle.sip_heavy.proofs.completeness.provers_go_up.Goals as goal

pub returns-clause-begun : goal.returns-clause-begun
returns-clause-begun c = λ p form leaves t. refl

pub returns-clause-learnt : goal.returns-clause-learnt
returns-clause-learnt c = leaves-push
