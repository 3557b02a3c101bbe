use Rattle.sip_field.specs.LawProofs.Primes.{m61_prime}
use Rattle.sip_field.specs.Moduli.{m61_modulus}
use Rattle.sip_sums.proofs.FewFooled.{few_fooled_bytes}
use Rattle.sip_sums.proofs.LegalTotals.{legal_small}
use Rattle.sip_sums.proofs.WrittenSums.{written_counts}
use Rattle.sip_sums.proofs.counting.accepted_answers_are_counted.Goals as goal

pub returns : goal.returns
returns c = λ version d stream q l block taken written legal is accepted.
    let small = legal_small d stream q l legal is in
    record {
      few = λ strategy bytes. few_fooled_bytes version d l.first l.second strategy m61_prime small.first small.second small.fits bytes;
      counts = λ strategy answer talk wrote wrong. written_counts version m61_modulus l.first l.second strategy block taken answer (accepted answer wrote) talk wrong;
    }
