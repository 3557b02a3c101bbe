use Rattle.sip_moments.proofs.StatedMoments.{are_accepted}
use Rattle.sip_moments.proofs.laws.bytes_are_accepted_where_lists_are.Goals as goal

pub returns : goal.returns
returns c = are_accepted
