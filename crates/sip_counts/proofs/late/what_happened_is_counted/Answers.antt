use Rattle.sip_counts.proofs.AnyOrder.{happened}
use Rattle.sip_counts.proofs.late.what_happened_is_counted.Goals as goal

pub returns : goal.returns
returns c = happened
