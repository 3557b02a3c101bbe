-- Each end of the call, by what receiving the frame did.
use Rattle.std.proofs.Common.{◌≡◌, ◌<◌, ℕ, List, Result, Err, false, length, take, ap, subst}
use Rattle.std.specs.Prelude.{IfErr}
use Rattle.std.proofs.lemmas.Result.{err_from_is_err_and}
use Rattle.sip_ports.specs.Ports.{GoesOn, outs}
use Rattle.sip_wire.specs.declared.message.WireFault.{WireFault}
use Rattle.sip_wire.specs.Frames.{frame_bytes, frame_message}
use Rattle.sip_wire.specs.Filling.{filled}
use Rattle.sip_lookup.specs.Hearing.{is_of_link}
use Rattle.sip_lookup.proofs.FoundHeard.{fault_kept, keeper_stopped, link_stopped, place_kept}
use Rattle.sip_lookup.proofs.look_asking.hear_found.Goals as goal

pub returns-in_err-on_wire-clause-hears : goal.returns-in_err-on_wire-clause-hears
returns-in_err-on_wire-clause-hears g c =
    let (fault, is, link, same) = c.in_err-on_wire.ensures in
    let p = err_from_is_err_and c.from_residual.result c.from_residual.ensures.1 in
    let m = frame_message c.decode_within-judged.new.frame in
    rw (p.1, p.2)
    (link_stopped c.args.version _ _ (g.C.Sink.talk c.args.keep.now) _ _ (frame_bytes c.decode_within-judged.new.frame) (filled m c.decode_within-judged.result) c.decode_within-judged.ensures.did fault (ap (filled m) is) link (Err c.in_err-on_wire.field-0.0) same)

pub returns-in_err-on_keep-clause-hears : goal.returns-in_err-on_keep-clause-hears
returns-in_err-on_keep-clause-hears g c =
    let (port, is, same) = c.in_err-on_keep.ensures in
    let p = err_from_is_err_and c.from_residual-in_err-on_keep.result c.from_residual-in_err-on_keep.ensures.1 in
    let m = frame_message c.decode_within-judged.new.frame in
    let talk = rw is at c.write_whole.ensures.talk in
    let kept = subst (λ (bytes : List ℕ). (n : ℕ) × (n < length bytes) × GoesOn (g.C.Sink.talk c.args.keep.now) (g.C.Sink.talk c.write_whole.new.sink) (outs (take n bytes))) c.bytes.ensures talk in
    rw (p.1, p.2)
    (keeper_stopped c.args.version _ _ _ _ _ _ (frame_bytes c.decode_within-judged.new.frame) (filled m c.decode_within-judged.result) c.decode_within-judged.ensures.did port kept (Err c.in_err-on_keep.field-0.0) same)

pub returns-in_err-on_found-clause-hears : goal.returns-in_err-on_found-clause-hears
returns-in_err-on_found-clause-hears g c =
    let (fault, is, same) = c.in_err-on_found.ensures in
    let p = err_from_is_err_and c.from_residual-in_err-on_found.result c.from_residual-in_err-on_found.ensures.1 in
    let m = frame_message c.decode_within-judged.new.frame in
    let link : is_of_link fault ≡ false = subst (λ (r : Result (Unit {0}) WireFault). IfErr r (λ (x : WireFault). is_of_link x ≡ false)) is c.in_ok-on_wire.ensures in
    let talk = rw c.in_ok-on_keep.ensures at c.write_whole.ensures.talk in
    let kept = subst (λ (bytes : List ℕ). GoesOn (g.C.Sink.talk c.args.keep.now) (g.C.Sink.talk c.write_whole.new.sink) (outs bytes)) c.bytes.ensures talk in
    rw (p.1, p.2)
    (fault_kept c.args.version _ _ _ _ _ _ (frame_bytes c.decode_within-judged.new.frame) (filled m c.decode_within-judged.result) c.decode_within-judged.ensures.did kept fault (ap (filled m) is) link (Err c.in_err-on_found.field-0.0) same)

pub returns-clause-hears : goal.returns-clause-hears
returns-clause-hears g c =
    let m = frame_message c.decode_within-judged.new.frame in
    let talk = rw c.in_ok-on_keep.ensures at c.write_whole.ensures.talk in
    let kept = subst (λ (bytes : List ℕ). GoesOn (g.C.Sink.talk c.args.keep.now) (g.C.Sink.talk c.write_whole.new.sink) (outs bytes)) c.bytes.ensures talk in
    place_kept c.args.version _ _ _ _ _ _ (frame_bytes c.decode_within-judged.new.frame) (filled m c.decode_within-judged.result) c.decode_within-judged.ensures.did kept m (ap (filled m) c.in_ok-on_found.ensures) c.place_in.result
    (rw c.message.ensures at c.place_in.ensures)
