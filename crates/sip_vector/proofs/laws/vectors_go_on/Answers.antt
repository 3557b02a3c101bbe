use Rattle.sip_vector.proofs.TreeStreams.{vector_goes_on}
use Rattle.sip_vector.proofs.laws.vectors_go_on.Goals as goal

pub returns : goal.returns
returns c = vector_goes_on
