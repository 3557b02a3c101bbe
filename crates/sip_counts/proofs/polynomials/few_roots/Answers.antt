use Rattle.sip_counts.proofs.Differences.{few_polynomial_roots}
use Rattle.sip_counts.proofs.polynomials.few_roots.Goals as goal

pub returns : goal.returns
returns c = few_polynomial_roots
