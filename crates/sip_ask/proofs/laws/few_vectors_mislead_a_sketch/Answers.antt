use Rattle.sip_ask.proofs.Counted.{few-mislead}
use Rattle.sip_ask.proofs.laws.few_vectors_mislead_a_sketch.Goals as goal

pub returns : goal.returns
returns c = few-mislead
