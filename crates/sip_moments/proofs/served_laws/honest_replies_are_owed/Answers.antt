use Rattle.sip_moments.proofs.ServedReplies.{replies_are_honest, runs_are_honest}
use Rattle.sip_moments.proofs.served_laws.honest_replies_are_owed.Goals as goal

pub returns : goal.returns
returns c = record { replies = replies_are_honest; run = runs_are_honest }
