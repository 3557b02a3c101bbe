use Rattle.sip_vector.proofs.TreeSums.{length-tree, root_is_sum}
use Rattle.sip_tree.proofs.laws.root_is_a_sum_of_nodes.Goals as goal

pub returns : goal.returns
returns c = record { length = length-tree; sum = root_is_sum }
