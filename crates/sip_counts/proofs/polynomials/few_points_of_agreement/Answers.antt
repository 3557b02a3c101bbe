use Rattle.sip_counts.proofs.Differences.{few_polynomials_agree}
use Rattle.sip_counts.proofs.polynomials.few_points_of_agreement.Goals as goal

pub returns : goal.returns
returns c = few_polynomials_agree
