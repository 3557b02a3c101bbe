use Rattle.sip_wire.proofs.ReadingLaws.{read_frame-append, read_frame-append_fault}
use Rattle.sip_wire.proofs.laws.frames_stay.Goals as goal

pub returns-clause-message : goal.returns-clause-message
returns-clause-message c = read_frame-append

pub returns-clause-fault : goal.returns-clause-fault
returns-clause-fault c = read_frame-append_fault
