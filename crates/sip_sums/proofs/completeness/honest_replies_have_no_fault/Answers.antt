use Rattle.sip_sums.proofs.HonestFronts.{front_unfinished}
use Rattle.sip_sums.proofs.HonestSums.{summed_unfinished}
use Rattle.sip_sums.proofs.completeness.honest_replies_have_no_fault.Goals as goal

pub returns-clause-whole : goal.returns-clause-whole
returns-clause-whole c = λ version p depth first second revealed more can short rs. summed_unfinished version p depth first second can revealed more short rs

pub returns-clause-front : goal.returns-clause-front
returns-clause-front c = λ version p depth first second can revealed r more front rest short rs is. front_unfinished version p depth first second can revealed r more short rs front rest is
