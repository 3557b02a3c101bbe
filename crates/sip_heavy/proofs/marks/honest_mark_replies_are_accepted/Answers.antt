use Rattle.sip_heavy.proofs.HonestVerdicts.{marks_accepted}
use Rattle.sip_heavy.proofs.marks.honest_mark_replies_are_accepted.Goals as goal

pub returns : goal.returns
returns c = marks_accepted
