use Rattle.sip_heavy.proofs.HonestStreams.{none_asked}
use Rattle.sip_heavy.proofs.completeness.nothing_is_asked_below.Goals as goal

pub returns : goal.returns
returns c = none_asked
