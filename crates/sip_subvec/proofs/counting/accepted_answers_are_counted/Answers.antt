use Rattle.std.proofs.Common.{refl}
use Rattle.sip_field.specs.LawProofs.Primes.{m61_prime}
use Rattle.sip_field.specs.Moduli.{m61_modulus}
use Rattle.sip_vector.specs.declared.update.Side.TheVariants.{First}
use Rattle.sip_vector.specs.Streams.{vector}
use Rattle.sip_vector.specs.Trees.{root}
use Rattle.sip_vector.proofs.Sides.{length-vector}
use Rattle.sip_subvec.proofs.FewFooled.{few_fooled_bytes}
use Rattle.sip_subvec.proofs.WrittenAnswers.{vector-small, written_counts}
use Rattle.sip_subvec.proofs.counting.accepted_answers_are_counted.Goals as goal

pub returns : goal.returns
returns c = λ version d lo hi stream block taken written le lt legal accepted. record {
  few = λ strategy bytes. few_fooled_bytes version d lo hi (vector d stream First) strategy m61_prime (length-vector d stream First) le lt (vector-small d stream legal) bytes;
  counts = λ strategy answer talk is wrong.
      written_counts version m61_modulus (root m61_modulus (vector d stream First) block) lo hi (vector d stream First) (root m61_modulus (vector d stream First)) strategy block taken answer refl (accepted answer is) talk wrong;
}
