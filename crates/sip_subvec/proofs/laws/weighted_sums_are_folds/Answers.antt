use Rattle.sip_subvec.proofs.WeightedFolds.{fold_of_level}
use Rattle.sip_subvec.proofs.StatedSums.{level_of_entries, folded_is_sum, root_is_sum}
use Rattle.sip_subvec.proofs.laws.weighted_sums_are_folds.Goals as goal

pub returns : goal.returns
returns c = record { level = fold_of_level; entries = level_of_entries; whole = folded_is_sum; root = root_is_sum }
