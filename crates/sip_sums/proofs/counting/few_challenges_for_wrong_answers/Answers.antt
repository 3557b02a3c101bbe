use Rattle.sip_field.specs.LawProofs.Primes.{m61_prime}
use Rattle.sip_sums.proofs.FewFooled.{few_fooled_bytes}
use Rattle.sip_sums.proofs.LegalTotals.{legal_small}
use Rattle.sip_sums.proofs.counting.few_challenges_for_wrong_answers.Goals as goal

pub returns : goal.returns
returns c = λ version d stream q l strategy legal is bytes.
    let small = legal_small d stream q l legal is in
    few_fooled_bytes version d l.first l.second strategy m61_prime small.first small.second small.fits bytes
