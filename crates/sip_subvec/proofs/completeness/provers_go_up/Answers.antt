use Rattle.sip_subvec.proofs.HonestStates.{proving-nil, proving-push}
use Rattle.sip_subvec.proofs.completeness.provers_go_up.Goals as goal

pub returns-clause-begun : goal.returns-clause-begun
returns-clause-begun c = proving-nil

pub returns-clause-learnt : goal.returns-clause-learnt
returns-clause-learnt c = proving-push
