use Rattle.sip_subvec.proofs.HonestLaws.{shown_accepted}
use Rattle.sip_subvec.proofs.completeness.honest_replies_are_accepted.Goals as goal

pub returns : goal.returns
returns c = shown_accepted
