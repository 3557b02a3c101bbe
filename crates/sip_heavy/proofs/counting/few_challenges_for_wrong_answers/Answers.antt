use Rattle.sip_field.specs.LawProofs.Primes.{m61_prime}
use Rattle.sip_field.specs.Moduli.{m61_modulus}
use Rattle.sip_vector.specs.Streams.{vector}
use Rattle.sip_vector.proofs.Sides.{length-vector}
use Rattle.sip_heavy.proofs.FewFooledByBytes.{few_fooled_by_bytes}
use Rattle.sip_heavy.proofs.LegalSums.{legal_sum}
use Rattle.sip_heavy.proofs.counting.few_challenges_for_wrong_answers.Goals as goal

pub returns : goal.returns
returns c = λ version d t stream side strategy legal strict.
    few_fooled_by_bytes version m61_modulus d t (vector d stream side) strategy m61_prime (length-vector d stream side) strict (legal_sum d stream side legal)
