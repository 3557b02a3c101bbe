use Rattle.sip_vector.proofs.TreeSums.{fold_keeps_sum, weighted_sum-cons, weighted_sum_push}
use Rattle.sip_tree.proofs.laws.folds_keep_weighted_sums.Goals as goal

pub returns : goal.returns
returns c = record { folded = fold_keeps_sum; front = weighted_sum-cons; back = weighted_sum_push }
