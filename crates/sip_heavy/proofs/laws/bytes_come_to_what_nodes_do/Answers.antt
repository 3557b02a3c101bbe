use Rattle.sip_heavy.proofs.StatedReplies.{are_accepted, are_judged}
use Rattle.sip_heavy.proofs.laws.bytes_come_to_what_nodes_do.Goals as goal

pub returns-clause-judged : goal.returns-clause-judged
returns-clause-judged c asked challenges replies depth are same = are_judged asked challenges replies depth are same

pub returns-clause-accepted : goal.returns-clause-accepted
returns-clause-accepted c asked challenges replies depth reached are same = are_accepted asked challenges replies depth reached are same
