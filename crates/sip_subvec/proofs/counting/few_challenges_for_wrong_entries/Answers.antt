use Rattle.sip_subvec.proofs.WrongEntries.{few_wrong_entries}
use Rattle.sip_subvec.proofs.counting.few_challenges_for_wrong_entries.Goals as goal

pub returns : goal.returns
returns c = λ p d lo hi numbers entries siblings prime len le lt all wrong. few_wrong_entries p lo hi numbers entries siblings d prime len le lt all wrong
