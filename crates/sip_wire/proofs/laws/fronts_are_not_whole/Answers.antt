use Rattle.sip_wire.proofs.ReadingLaws.{read_frame-short}
use Rattle.sip_wire.proofs.laws.fronts_are_not_whole.Goals as goal

pub returns : goal.returns
returns c = read_frame-short
