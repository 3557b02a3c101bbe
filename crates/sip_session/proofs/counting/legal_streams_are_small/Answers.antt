use Rattle.sip_session.proofs.KindBounds.{are_small}
use Rattle.sip_session.proofs.counting.legal_streams_are_small.Goals as goal

pub returns : goal.returns
returns c = are_small
