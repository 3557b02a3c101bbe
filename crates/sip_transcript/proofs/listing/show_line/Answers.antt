-- A frame has three bytes at least.
use Rattle.std.proofs.Common.{length, ap, ◌∙◌, arith}
use Rattle.sip_wire.proofs.ReadingLaws.{length-spelling}
use Rattle.sip_transcript.proofs.listing.show_line.Goals as goal

pub write_line-requires : goal.write_line-requires
write_line-requires g c =
    let (version, fit, is) = c.requires in
    omega (arith, ap length (c.bytes.ensures ∙ is), length-spelling version c.args.message.now)
