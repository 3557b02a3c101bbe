use Rattle.sip_heavy.proofs.FewFooledByBytes.{few_fooled_by_bytes}
use Rattle.sip_heavy.proofs.counting.few_challenges_for_wrong_replies.Goals as goal

pub returns : goal.returns
returns c = λ version p d t numbers strategy prime long strict few. few_fooled_by_bytes version p d t numbers strategy prime long strict few
