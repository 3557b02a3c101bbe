use Rattle.sip_heavy.proofs.HonestVerdicts.{asked_of, heavy_accepted}
use Rattle.sip_heavy.proofs.completeness.honest_replies_are_accepted.Goals as goal

pub returns : goal.returns
returns c = λ version p depth t n numbers challenges can some reached all. heavy_accepted version p depth t n numbers (asked_of version p depth t n numbers can some reached) challenges all
