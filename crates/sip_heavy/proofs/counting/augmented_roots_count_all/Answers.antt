use Rattle.sip_heavy.proofs.TrueLevels.{root_counts_all}
use Rattle.sip_heavy.proofs.counting.augmented_roots_count_all.Goals as goal

pub returns : goal.returns
returns c = root_counts_all
