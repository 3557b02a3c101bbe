use Rattle.sip_counts.proofs.Joint.{few_misled}
use Rattle.sip_counts.proofs.strategies.few_joint_vectors.Goals as goal

pub returns : goal.returns
returns c = few_misled
