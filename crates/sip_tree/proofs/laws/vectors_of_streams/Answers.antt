use Rattle.sip_vector.proofs.TreeStreams.{vector_raised}
use Rattle.sip_vector.proofs.Sides.{vector-nil, vector-other_side}
use Rattle.sip_tree.proofs.laws.vectors_of_streams.Goals as goal

pub returns : goal.returns
returns c = record { empty = vector-nil; raised = vector_raised; kept = vector-other_side }
