use Rattle.std.proofs.Common.{arith}
use Rattle.sip_wire.specs.declared.kind.Place.TheVariants.{ToHelper}
use Rattle.sip_wire.specs.declared.message.Message.TheVariants as messages
use Rattle.sip_wire.proofs.ReadingLaws.{asked-least}
use Rattle.sip_cli.proofs.Telling.{whole_read}
use Rattle.sip_cli.proofs.told_link.query_of.Goals as goal
use Rattle.sip_cli.proofs.told_link.query_of.Goals.{else-frame-ge-SHORTEST-via-then-frame-ge-SHORTEST+else-frame-frame_length, else-frame-ge-SHORTEST-via-else-frame-ge-SHORTEST}

pub returns-then-frame-frame_length : goal.returns-then-frame-frame_length
returns-then-frame-frame_length c query is =
    absurd (omega (arith, c.if-frame-frame_length.true, c.frame_length.ensures, whole_read c.args.version ToHelper c.args.frame.now (messages.Query query) is))

pub read-requires : goal.read-requires
read-requires c =
    elim c.else-frame-ge-SHORTEST.branch [ else-frame-ge-SHORTEST-via-then-frame-ge-SHORTEST+else-frame-frame_length w ↦ omega (arith, w.if-frame-frame_length.false, w.frame_length.ensures) | else-frame-ge-SHORTEST-via-else-frame-ge-SHORTEST w ↦ omega (arith, w.if-frame-ge-SHORTEST.false, asked-least c.args.version ToHelper c.args.frame.now) ]
