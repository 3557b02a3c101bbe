-- A frame has three bytes at least, and its message a spelling in version 2.
use Rattle.std.proofs.Common.{length, ap, arith}
use Rattle.sip_wire.proofs.ReadingLaws.{length-spelling}
use Rattle.sip_wire.proofs.Wider.{fits_two}
use Rattle.sip_transcript.proofs.rendering.Rendering.write_reply.Goals as goal

pub write_line-requires : goal.write_line-requires
write_line-requires g c =
    let (version, took) = c.requires in
    omega (arith, ap length took.spelled, length-spelling version c.args.message.now)

pub encode-requires : goal.encode-requires
encode-requires g c =
    let (version, took) = c.requires in
    fits_two version c.args.message.now took.has_spelling
