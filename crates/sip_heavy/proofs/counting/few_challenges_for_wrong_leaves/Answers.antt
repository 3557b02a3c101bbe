use Rattle.sip_heavy.specs.Counting.{asked_over}
use Rattle.sip_heavy.proofs.CountLeaves.{count_leaves, counts_few, counts_sum, counts_stand, long_counts}
use Rattle.sip_heavy.proofs.FewFooled.{few_fooled}
use Rattle.sip_heavy.proofs.counting.few_challenges_for_wrong_leaves.Goals as goal

pub returns : goal.returns
returns c = λ p d t numbers strategy prime long strict few.
    few_fooled p (asked_over d t numbers) (count_leaves p numbers) numbers strategy prime (long_counts p d numbers long) (counts_stand p numbers strict) (counts_sum p numbers) (counts_few p numbers strict few)
