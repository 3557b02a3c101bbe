use Rattle.sip_field.specs.LawProofs.Primes.{m61_prime}
use Rattle.sip_vector.specs.declared.update.Side.TheVariants.{First}
use Rattle.sip_vector.specs.Streams.{vector}
use Rattle.sip_vector.proofs.Sides.{length-vector}
use Rattle.sip_subvec.proofs.FewFooled.{few_fooled_bytes}
use Rattle.sip_subvec.proofs.WrittenAnswers.{vector-small}
use Rattle.sip_subvec.proofs.counting.few_challenges_for_wrong_answers.Goals as goal

pub returns : goal.returns
returns c = λ version d lo hi stream strategy le lt legal bytes. few_fooled_bytes version d lo hi (vector d stream First) strategy m61_prime (length-vector d stream First) le lt (vector-small d stream legal) bytes
