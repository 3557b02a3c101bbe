-- A message was passed, or there is none, or something stopped.
use Rattle.std.proofs.Common.{◌≡◌, ◌+◌, List, ℕ, length, sym, ap, subst, arith, rules}
use Rattle.sip_wire.specs.declared.frame.Frame.{Frame}
use Rattle.sip_wire.specs.declared.kind.Place.TheVariants.{ToVerifier}
use Rattle.sip_wire.specs.declared.message.Message.{Message}
use Rattle.sip_wire.specs.declared.version.Version.{Version}
use Rattle.sip_wire.specs.Decoding.{Took}
use Rattle.sip_wire.specs.Frames.{frame_bytes, frame_message}
use Rattle.sip_wire.proofs.ReadingLaws.{length-spelling}
use Rattle.sip_transcript.specs.Underway.{IsUnderway}
use Rattle.sip_transcript.proofs.Onward.{place-lost, reply-ends, reply-passed, reply-stops, sink-stopped, source-stopped}
use Rattle.sip_transcript.proofs.showing.pass_reply.Goals as goal

pub returns-in-Err-clause-passes : goal.returns-in-Err-clause-passes
returns-in-Err-clause-passes g c = λ bytes start so.
    rw c.status_of_source.ensures
    (source-stopped c.args.to bytes (g.B.Source.left c.args.second.now) (g.B.Source.left c.take_reply.new.source) start (g.K.Sink.talk c.args.report.now) c.args.version c.args.place c.in-Err.stop so)

pub returns-in-End-clause-passes : goal.returns-in-End-clause-passes
returns-in-End-clause-passes g c = λ bytes start so.
    reply-ends c.args.to bytes (g.B.Source.left c.args.second.now) (g.B.Source.left c.take_reply.new.source) start (g.K.Sink.talk c.args.report.now) c.args.version c.args.place (frame_bytes c.take_reply.new.frame) (frame_message c.take_reply.new.frame) so
    (rw c.in-End.is at c.in-Ok.ensures.reads)

pub returns-in-Faulty-clause-passes : goal.returns-in-Faulty-clause-passes
returns-in-Faulty-clause-passes g c = λ bytes start so.
    reply-stops c.args.to bytes (g.B.Source.left c.args.second.now) (g.B.Source.left c.take_reply.new.source) start (g.K.Sink.talk c.args.report.now) c.args.version c.args.place (frame_bytes c.take_reply.new.frame) (frame_message c.take_reply.new.frame) so
    (rw c.in-Faulty.is at c.in-Ok.ensures.reads)

-- the message and the bytes that are shown are the frame's
as_shown : (version : Version) (frame : Frame) (bytes : List ℕ) (m : Message) → bytes ≡ frame_bytes frame → m ≡ frame_message frame → Took version ToVerifier (frame_bytes frame) (frame_message frame)
    → Took version ToVerifier (frame_bytes frame) m × Took version ToVerifier bytes m
as_shown version frame bytes m same is took =
    let said = subst (λ (n : Message). Took version ToVerifier (frame_bytes frame) n) (sym is) took in
    (said, subst (λ (l : List ℕ). Took version ToVerifier l m) (sym same) said)

pub returns-in-Err-write_reply-clause-passes : goal.returns-in-Err-write_reply-clause-passes
returns-in-Err-write_reply-clause-passes g c = λ bytes start so.
    let said = rw c.in-Said.is at c.in-Ok.ensures.reads in
    let shown = as_shown c.args.version c.take_reply.new.frame c.bytes-bytes.result.now c.message.result.now c.bytes-bytes.ensures c.message.ensures said.0 in
    let (k, fewer, wrote) = c.in-Err-write_reply.ensures.talk c.args.version shown.1 in
    rw c.status_of_sink.ensures
    (sink-stopped c.args.to bytes (g.B.Source.left c.args.second.now) (g.B.Source.left c.take_reply.new.source) start (g.K.Sink.talk c.args.report.now) (g.K.Sink.talk c.write_reply.new.sink) c.args.version c.args.place
    (frame_bytes c.take_reply.new.frame) c.message.result.now c.in-Err-write_reply.stop so (shown.0, said.1) k fewer wrote)

pub returns-in-Some-clause-passes : goal.returns-in-Some-clause-passes
returns-in-Some-clause-passes g c = λ bytes start so.
    let said = rw c.in-Said.is at c.in-Ok.ensures.reads in
    let shown = as_shown c.args.version c.take_reply.new.frame c.bytes-bytes.result.now c.message.result.now c.bytes-bytes.ensures c.message.ensures said.0 in
    let after : c.in-Some.after ≡ c.args.place + length (frame_bytes c.take_reply.new.frame) = search rules in
    subst (IsUnderway c.args.to bytes (g.B.Source.left c.take_reply.new.source) start (g.K.Sink.talk c.write_reply.new.sink) c.args.version) (sym after)
    (reply-passed c.args.to bytes (g.B.Source.left c.args.second.now) (g.B.Source.left c.take_reply.new.source) start (g.K.Sink.talk c.args.report.now) (g.K.Sink.talk c.write_reply.new.sink) c.args.version c.args.place
    (frame_bytes c.take_reply.new.frame) c.message.result.now so (shown.0, said.1) (c.in_default.ensures.talk c.args.version shown.1))

pub returns-in-Some-clause-further : goal.returns-in-Some-clause-further
returns-in-Some-clause-further g c =
    let said = rw c.in-Said.is at c.in-Ok.ensures.reads in
    let after : c.in-Some.after ≡ c.args.place + length (frame_bytes c.take_reply.new.frame) = search rules in
    omega (arith, after, ap length said.0.spelled, length-spelling c.args.version (frame_message c.take_reply.new.frame))

pub returns-in-None-clause-passes : goal.returns-in-None-clause-passes
returns-in-None-clause-passes g c = λ bytes start so.
    let said = rw c.in-Said.is at c.in-Ok.ensures.reads in
    let shown = as_shown c.args.version c.take_reply.new.frame c.bytes-bytes.result.now c.message.result.now c.bytes-bytes.ensures c.message.ensures said.0 in
    place-lost c.args.to bytes (g.B.Source.left c.args.second.now) (g.B.Source.left c.take_reply.new.source) start (g.K.Sink.talk c.args.report.now) (g.K.Sink.talk c.write_reply.new.sink) c.args.version c.args.place
    (frame_bytes c.take_reply.new.frame) c.message.result.now so (shown.0, said.1) (c.in_default.ensures.talk c.args.version shown.1)
