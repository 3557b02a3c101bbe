use Rattle.sip_field.specs.LawProofs.Primes.{m61_prime}
use Rattle.sip_field.specs.Moduli.{m61_modulus}
use Rattle.sip_vector.specs.Streams.{vector}
use Rattle.sip_vector.proofs.Sides.{length-vector}
use Rattle.sip_heavy.proofs.FewFooledByBytes.{few_fooled_by_bytes, written_counts}
use Rattle.sip_heavy.proofs.LegalSums.{legal_sum}
use Rattle.sip_heavy.proofs.counting.accepted_answers_are_counted.Goals as goal

pub returns : goal.returns
returns c = λ version d t stream side block taken written legal strict accepted.
    record {
      few = λ strategy bytes. few_fooled_by_bytes version m61_modulus d t (vector d stream side) strategy m61_prime (length-vector d stream side) strict (legal_sum d stream side legal);
      counts = λ strategy answer talk wrote wrong. written_counts version m61_modulus d t (vector d stream side) strategy block taken answer (accepted answer wrote) talk wrong;
    }
