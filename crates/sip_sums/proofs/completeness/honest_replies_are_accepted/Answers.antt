use Rattle.sip_sums.proofs.HonestSums.{summed_accepted}
use Rattle.sip_sums.proofs.completeness.honest_replies_are_accepted.Goals as goal

pub returns : goal.returns
returns c = λ version p depth first second challenges can all rs. summed_accepted version p depth first second can challenges all rs
