use Rattle.sip_moments.proofs.AcceptedMoments.{are_stated}
use Rattle.sip_moments.proofs.laws.accepted_replies_state_moments.Goals as goal

pub returns : goal.returns
returns c = are_stated
