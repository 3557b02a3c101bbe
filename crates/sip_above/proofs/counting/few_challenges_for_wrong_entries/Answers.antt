use Rattle.sip_above.proofs.LargeCounts.{few_large}
use Rattle.sip_above.proofs.counting.few_challenges_for_wrong_entries.Goals as goal

pub returns : goal.returns
returns c = few_large
