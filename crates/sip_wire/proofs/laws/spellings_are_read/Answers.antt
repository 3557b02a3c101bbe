use Rattle.sip_wire.proofs.ReadingLaws.{read_frame-spelling}
use Rattle.sip_wire.proofs.laws.spellings_are_read.Goals as goal

pub returns : goal.returns
returns c = read_frame-spelling
