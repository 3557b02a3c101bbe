use Rattle.sip_subvec.proofs.FewFooled.{few_fooled_small}
use Rattle.sip_subvec.proofs.counting.few_challenges_for_wrong_replies.Goals as goal

pub returns : goal.returns
returns c = few_fooled_small
