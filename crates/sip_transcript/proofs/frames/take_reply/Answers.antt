-- No byte, a message, or a fault.
use Rattle.std.proofs.Common.{◌≡◌, ◌<◌, length, rules}
use Rattle.std.proofs.lemmas.List.{nil_from_length}
use Rattle.sip_wire.specs.Frames.{frame_bytes, frame_message}
use Rattle.sip_transcript.proofs.Framing.{reply-end, reply-refused}
use Rattle.sip_transcript.proofs.frames.take_reply.Goals as goal

pub returns-then-is_empty-clause-reads : goal.returns-then-is_empty-clause-reads
returns-then-is_empty-clause-reads g c =
    let none : length (frame_bytes c.fill.new.frame) ≡ 0 = search rules in
    reply-end c.args.version (g.S.Source.left c.args.source.now) (g.S.Source.left c.fill.new.source) (frame_bytes c.fill.new.frame) (frame_message c.fill.new.frame) c.in_ok-fill.ensures.has (nil_from_length (frame_bytes c.fill.new.frame) none)

pub returns-in-Part-clause-reads : goal.returns-in-Part-clause-reads
returns-in-Part-clause-reads g c =
    let some : 0 < length (frame_bytes c.fill.new.frame) = search rules in
    reply-refused c.args.version (g.S.Source.left c.args.source.now) (g.S.Source.left c.fill.new.source) (frame_bytes c.fill.new.frame) (frame_bytes c.judge.new.self) (frame_message c.judge.new.self) c.judge.result
    c.judge.ensures.bytes c.in_ok-fill.ensures.has some c.judge.ensures.judges c.in-Part.is
