use Rattle.sip_moments.proofs.FewFooled.{few_fooled_small}
use Rattle.sip_moments.proofs.counting.few_challenges_for_wrong_replies.Goals as goal

pub returns : goal.returns
returns c = few_fooled_small
