use Rattle.sip_session.proofs.KindBounds.{joint_bound}
use Rattle.sip_session.proofs.counting.few_joint_vectors_mislead.Goals as goal

pub returns : goal.returns
returns c = λ version p depth stream queries strategy prime some can bytes. joint_bound version p depth stream prime queries strategy some can bytes
