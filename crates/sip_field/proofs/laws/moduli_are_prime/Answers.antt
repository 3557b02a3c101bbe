use Rattle.sip_field.specs.LawProofs.Primes.{m61_prime, f31_prime}
use Rattle.sip_field.proofs.laws.moduli_are_prime.Goals as goal

pub returns-clause-m61 : goal.returns-clause-m61
returns-clause-m61 c = m61_prime

pub returns-clause-f31 : goal.returns-clause-f31
returns-clause-f31 c = f31_prime
