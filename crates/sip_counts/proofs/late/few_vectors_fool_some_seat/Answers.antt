use Rattle.sip_counts.proofs.AnyOrder.{few_fooled}
use Rattle.sip_counts.proofs.late.few_vectors_fool_some_seat.Goals as goal

pub returns : goal.returns
returns c = few_fooled
