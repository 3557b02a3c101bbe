use Rattle.sip_heavy.proofs.AcceptedFrames.{are_stated}
use Rattle.sip_heavy.proofs.laws.accepted_replies_state_nodes.Goals as goal

pub returns : goal.returns
returns c asked challenges replies answer depth reached fine accepted = are_stated asked challenges replies answer depth reached fine accepted
