-- The two messages that a talk over a store begins with.
use Rattle.std.proofs.Common.{length, ap, arith, inr}
use Rattle.std.proofs.lemmas.Result.{err_from_is_err_and}
use Rattle.sip_wire.specs.Frames.{frame_bytes}
use Rattle.sip_questions.proofs.StoreTurns.{asks, opens, recalls, stops_at_recall, version_then}
use Rattle.sip_questions.proofs.store.open.Goals as goal

pub returns-in_err-take_turn-2-clause-opens : goal.returns-in_err-take_turn-2-clause-opens
returns-in_err-take_turn-2-clause-opens g c =
    let p = err_from_is_err_and c.from_residual-in_err-take_turn-2.result c.from_residual-in_err-take_turn-2.ensures.1 in
    let opened = opens _ _ c.take_turn.new.helper (frame_bytes c.take_turn.new.frame) (rw c.requires at c.in_ok-take_turn.ensures.turn) in
    let same = version_then (g.L.Sink.talk c.args.link.now) (g.L.Sink.talk c.take_turn.new.link) (g.L.Sink.talk c.args.link.now) c.take_turn.new.helper _ opened c.version_due.result c.version_due.ensures in
    let stops = rw c.new-recalling.ensures at c.in_err-take_turn-2.ensures.turn in
    rw (p.1, p.2) (inr (stops_at_recall _ _ _ _ _ opened c.version_due.result _ c.in_err-take_turn-2.field-0.0 same (ap length c.bytes.ensures) stops))

pub returns-clause-opens : goal.returns-clause-opens
returns-clause-opens g c =
    let opened = opens _ _ c.take_turn.new.helper (frame_bytes c.take_turn.new.frame) (rw c.requires at c.in_ok-take_turn.ensures.turn) in
    let same = version_then (g.L.Sink.talk c.args.link.now) (g.L.Sink.talk c.take_turn.new.link) (g.L.Sink.talk c.args.link.now) c.take_turn.new.helper _ opened c.version_due.result c.version_due.ensures in
    let took = rw c.new-recalling.ensures at c.in_ok-take_turn-2.ensures.turn in
    let other = frame_bytes c.take_turn-2.new.frame in
    asks _ _ _ _ _ opened c.version_due.result other c.take_turn-2.new.helper _ same (recalls c.version_due.result _ _ c.take_turn-2.new.helper other took) c.in-Some.is (omega (arith, ap length c.bytes.ensures, ap length c.bytes-2.ensures))
