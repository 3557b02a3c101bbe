use Rattle.std.proofs.Common.{sym}
use Rattle.sip_wire.proofs.AtHand.{asked_of}
use Rattle.sip_wire.proofs.at_hand.frame_length.Goals as goal

pub returns-in-Ok : goal.returns-in-Ok
returns-in-Ok c = sym (asked_of c.args.version c.args.place c.args.bytes.now _ _ c.in-Ok.ensures)
