use Rattle.sip_above.proofs.LargeCounts.{large_counts}
use Rattle.sip_above.proofs.counting.accepted_entries_are_counted.Goals as goal

pub returns : goal.returns
returns c = large_counts
