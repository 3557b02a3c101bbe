use Rattle.sip_vector.specs.declared.update.Side.TheVariants.{First}
use Rattle.sip_vector.specs.Streams.{vector}
use Rattle.sip_vector.proofs.Sides.{length-vector}
use Rattle.sip_subvec.proofs.WrittenAnswers.{vector-small}
use Rattle.sip_lookup.proofs.FewFooled.{few_fooled_look}
use Rattle.sip_lookup.proofs.counting.few_challenges_for_wrong_lookups.Goals as goal

pub returns : goal.returns
returns c = λ version d l stream strategy item legal bytes. few_fooled_look version d (vector d stream First) l (length-vector d stream First) item strategy bytes (vector-small d stream legal)
