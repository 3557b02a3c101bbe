use Rattle.sip_wire.proofs.ReadsBack.{read_frame-message}
use Rattle.sip_wire.proofs.laws.messages_are_spelled.Goals as goal

pub returns : goal.returns
returns c = read_frame-message
