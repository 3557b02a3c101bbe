use Rattle.sip_heavy.proofs.WrongNodes.{few_true_above}
use Rattle.sip_heavy.proofs.counting.few_challenges_hide_a_wrong_node.Goals as goal

pub returns : goal.returns
returns c = λ p truth nodes prime. few_true_above p prime truth nodes
