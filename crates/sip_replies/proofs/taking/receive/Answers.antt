use Rattle.std.proofs.Common.{◌<◌, ℕ, List, length, take, sym, ap, subst, ◌∙◌}
use Rattle.sip_ports.specs.Ports.{GoesOn, outs}
use Rattle.sip_wire.specs.Frames.{frame_bytes, frame_message}
use Rattle.sip_wire.specs.Filling.{filled as received}
use Rattle.sip_replies.proofs.Receiving.{Came-received, Takes-unkept, IsPart-failed, IsPart-no_memory}
use Rattle.sip_replies.proofs.taking.receive.Goals.{in_default-via-in-Err+in-Closed-1, in_default-via-in-Ok-1}
use Rattle.sip_replies.proofs.taking.receive.Goals as goal

pub returns-in_err-write_whole-in_default-clause-took : goal.returns-in_err-write_whole-in_default-clause-took
returns-in_err-write_whole-in_default-clause-took g c =
    let kept = subst (λ (bytes : List ℕ). (n : ℕ) × (n < length bytes) × GoesOn (g.K.Sink.talk c.args.keep.now) (g.K.Sink.talk c.write_whole.new.sink) (outs (take n bytes))) c.bytes.ensures c.in_err-write_whole-in_default.ensures.talk in
    Takes-unkept c.args.version c.args.place _ _ _ _ _ _ (frame_bytes c.decode_within.new.frame) (received (frame_message c.decode_within.new.frame) c.decode_within.result) c.decode_within.ensures.did
    c.in_err-write_whole-in_default.field-0.0 kept (frame_message c.decode_within.new.frame) c.from_residual.result c.from_residual.ensures.1

pub returns-in-Err-PeerFault-clause-took : goal.returns-in-Err-PeerFault-clause-took
returns-in-Err-PeerFault-clause-took g c =
    let did = rw c.in-Err-PeerFault.field-0-is at c.in-Err-PeerFault.ensures.did in
    IsPart-failed c.args.version c.args.place _ _ (g.K.Sink.talk c.args.keep.now) _ _ (frame_bytes c.decode_within.new.frame) did

pub returns-in-Err-OutOfMemory-clause-took : goal.returns-in-Err-OutOfMemory-clause-took
returns-in-Err-OutOfMemory-clause-took g c =
    let did = rw c.in-Err-OutOfMemory.field-0-is at c.in-Err-OutOfMemory.ensures.did in
    IsPart-no_memory c.args.version c.args.place _ _ (g.K.Sink.talk c.args.keep.now) _ _ (frame_bytes c.decode_within.new.frame) did

pub returns-in_ok-judged-in_default-clause-took : goal.returns-in_ok-judged-in_default-clause-took
returns-in_ok-judged-in_default-clause-took g c =
    let kept = subst (λ (bytes : List ℕ). GoesOn (g.K.Sink.talk c.args.keep.now) (g.K.Sink.talk c.write_whole.new.sink) (outs bytes)) c.bytes.ensures c.in_ok-write_whole-in_default.ensures.talk in
    let m = frame_message c.decode_within.new.frame in
    Came-received c.args.version c.args.place _ _ _ _ _ _ (frame_bytes c.decode_within.new.frame) (received m c.decode_within.result) c.decode_within.ensures.did m
    (elim c.in_default-1.branch [
      | in_default-via-in-Err+in-Closed-1 w ↦ absurd (let is = w.judged-is in let was = c.in_ok-judged-in_default.was in cc)
      | in_default-via-in-Ok-1 w ↦ ap (received m) (sym w.judged-is ∙ c.in_ok-judged-in_default.was)
    ]) kept
