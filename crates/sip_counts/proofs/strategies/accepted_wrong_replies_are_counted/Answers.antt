use Rattle.sip_counts.proofs.Talks.{takes_wrong-at}
use Rattle.sip_counts.proofs.strategies.accepted_wrong_replies_are_counted.Goals as goal

pub returns : goal.returns
returns c = takes_wrong-at
