use Rattle.sip_sums.proofs.DegreeTwo.{adds_up-listed}
use Rattle.sip_sums.proofs.laws.sums_are_checked_at_degree_two.Goals as goal

pub returns : goal.returns
returns c = adds_up-listed
