-- What came of the query, and of its line.
use Rattle.std.proofs.Common.{◌≡◌, Ok, Err, ap, refl, subst, sym}
use Rattle.std.proofs.lemmas.Result.{err_from_is_err_and}
use Rattle.sip_duel.specs.Story.{IsHonestTalk}
use Rattle.sip_duel.proofs.KeepsLemmas.{kept_is_honest}
use Rattle.sip_ports.proofs.FaultLemmas.{Rose-positive}
use Rattle.sip_verifier.specs.declared.asker.Unanswered.TheVariants as unanswered
use Rattle.sip_verifier.specs.declared.session.SessionFault.TheVariants as faults
use Rattle.sip_verifier.specs.Given.{States}
use Rattle.sip_verifier.specs.Questions.{asking}
use Rattle.sip_verifier.specs.inside.Ending.{status_of_fault}
use Rattle.sip_verifier.specs.runs.Askers.{has_failed}
use Rattle.sip_verifier.specs.Snapshots.{counts, sink}
use Rattle.sip_verifier.proofs.KeptChecks.{line_stops, unjudged_keeps}
use Rattle.sip_session.specs.declared.panel_asking.Came.TheVariants as cames
use Rattle.sip_session.proofs.Tries.{asks_on, drop_cut_closed, fault_goes_on, fault_tried, line_cut, line_goes_on}
use Rattle.sip_session.proofs.panel_asking.ask_helper.Goals as goal

pub returns-in_err-on_report-in-Ok-clause-tries : goal.returns-in_err-on_report-in-Ok-clause-tries
returns-in_err-on_report-in-Ok-clause-tries g c = λ stream ask all first.
    let s = c.args.session.now in
    let asks = rw c.in-Ok.is at (c.ask_next.ensures.asks stream ask all first) in
    let p = err_from_is_err_and c.from_residual.result c.from_residual.ensures.1 in
    let on = rw c.in_err-on_report-in-Ok.was at c.on_report.ensures in
    rw (p.1, p.2) (line_cut (asking s.version s.depth stream) ask _ _ _ _ _ _ asks.answer c.write_line.result c.in_err-on_report-in-Ok.field-0.0 asks.answered (c.write_line.ensures.line s.version s.depth stream ask.0 asks.answer asks.states) on)

pub returns-in_ok-on_report-in-Ok-clause-tries : goal.returns-in_ok-on_report-in-Ok-clause-tries
returns-in_ok-on_report-in-Ok-clause-tries g c = λ stream ask all first.
    let s = c.args.session.now in
    let asks = rw c.in-Ok.is at (c.ask_next.ensures.asks stream ask all first) in
    let wrote = rw c.in_ok-on_report-in-Ok.ensures at (c.write_line.ensures.line s.version s.depth stream ask.0 asks.answer asks.states) in
    record { answer = asks.answer; answered = asks.answered; wrote = wrote }

pub returns-in_err-on_report-in-Err-Rejected-clause-tries :
    goal.returns-in_err-on_report-in-Err-Rejected-clause-tries
returns-in_err-on_report-in-Err-Rejected-clause-tries g c = λ stream ask all first.
    let s = c.args.session.now in
    let asks = rw (c.in-Err-Rejected.is, c.in-Err-Rejected.field-0-is) at (c.ask_next.ensures.asks stream ask all first) in
    let p = err_from_is_err_and c.from_residual-in_err-on_report-in-Err-Rejected.result c.from_residual-in_err-on_report-in-Err-Rejected.ensures.1 in
    let on = rw c.in_err-on_report-in-Err-Rejected.was at c.on_report-in-Err-Rejected.ensures in
    let kept = ap (λ (t : _). t.items) c.close_and_drop.ensures.talk in
    rw (p.1, p.2) (drop_cut_closed (asking s.version s.depth stream) ask _ _ _ _ _ _ _ c.in-Err-Rejected.round c.in-Err-Rejected.reason c.write_dropped.result c.in_err-on_report-in-Err-Rejected.field-0.0 kept asks c.write_dropped.ensures.talk on)

pub returns-in_ok-on_report-in-Err-Rejected-clause-tries :
    goal.returns-in_ok-on_report-in-Err-Rejected-clause-tries
returns-in_ok-on_report-in-Err-Rejected-clause-tries g c = λ stream ask all first.
    let asks = rw (c.in-Err-Rejected.is, c.in-Err-Rejected.field-0-is) at (c.ask_next.ensures.asks stream ask all first) in
    let wrote = rw c.in_ok-on_report-in-Err-Rejected.ensures at c.write_dropped.ensures.talk in
    rw c.close_and_drop.ensures.talk (record { rejected = asks; wrote = wrote })

pub returns-in-Err-Fault-clause-tries : goal.returns-in-Err-Fault-clause-tries
returns-in-Err-Fault-clause-tries g c = λ stream ask all first.
    let s = c.args.session.now in
    let asks = rw (c.in-Err-Fault.is, c.in-Err-Fault.field-0-is) at (c.ask_next.ensures.asks stream ask all first) in
    rw c.status_of_fault.ensures (fault_tried (asking s.version s.depth stream) ask _ _ _ _ _ (λ given. States c.ask_next.new.self given ask.0) c.in-Err-Fault.fault asks
    (λ e. Rose-positive 0 0 (c.ask_next.ensures.keeps.cause (let a = c.in-Err-Fault.is in let b = c.in-Err-Fault.field-0-is in let whole : c.ask_next.result ≡ Err (unanswered.Fault faults.PeerFault) = cc in whole)) refl)
    (λ e. Rose-positive 0 0 (c.ask_next.ensures.keeps.keep_cause (let a = c.in-Err-Fault.is in let b = c.in-Err-Fault.field-0-is in let whole : c.ask_next.result ≡ Err (unanswered.Fault faults.KeepFault) = cc in whole)) refl))

-- ---- what an honest helper's link tells

pub returns-in_err-on_report-in-Ok-clause-honest : goal.returns-in_err-on_report-in-Ok-clause-honest
returns-in_err-on_report-in-Ok-clause-honest g c = λ k.
    kept_is_honest _ c.ask_next.new.link.kept (c.ask_next.ensures.link.sure k)

pub returns-in_ok-on_report-in-Ok-clause-honest : goal.returns-in_ok-on_report-in-Ok-clause-honest
returns-in_ok-on_report-in-Ok-clause-honest g c = λ k.
    kept_is_honest _ c.ask_next.new.link.kept (c.ask_next.ensures.link.sure k)

pub returns-in_err-on_report-in-Err-Rejected-clause-honest :
    goal.returns-in_err-on_report-in-Err-Rejected-clause-honest
returns-in_err-on_report-in-Err-Rejected-clause-honest g c = λ k.
    subst (λ t. IsHonestTalk t.items) (sym c.close_and_drop.ensures.talk)
    (kept_is_honest _ c.ask_next.new.link.kept (c.ask_next.ensures.link.sure k))

pub returns-in_ok-on_report-in-Err-Rejected-clause-honest :
    goal.returns-in_ok-on_report-in-Err-Rejected-clause-honest
returns-in_ok-on_report-in-Err-Rejected-clause-honest g c = λ k.
    subst (λ t. IsHonestTalk t.items) (sym c.close_and_drop.ensures.talk)
    (kept_is_honest _ c.ask_next.new.link.kept (c.ask_next.ensures.link.sure k))

pub returns-in-Err-Fault-clause-honest : goal.returns-in-Err-Fault-clause-honest
returns-in-Err-Fault-clause-honest g c = λ k.
    kept_is_honest _ c.ask_next.new.link.kept (c.ask_next.ensures.link.sure k)

pub returns-in_ok-on_report-in-Ok-clause-sure : goal.returns-in_ok-on_report-in-Ok-clause-sure
returns-in_ok-on_report-in-Ok-clause-sure g c = λ _ k. c.ask_next.ensures.link.sure k

-- ---- what is kept, and that a helper that is dropped is closed

pub returns-in_err-on_report-in-Ok-clause-keeps : goal.returns-in_err-on_report-in-Ok-clause-keeps
returns-in_err-on_report-in-Ok-clause-keeps g c =
    let p = err_from_is_err_and c.from_residual.result c.from_residual.ensures.1 in
    let e = c.ask_next.ensures in
    let stops = line_stops (counts 0 0 0 (g.K.Sink.faults c.args.report.now) 0) (counts 0 0 0 (g.K.Sink.faults c.write_line.new.report) 0) c.write_line.result c.on_report.result c.on_report.ensures c.write_line.ensures.cause.failed in
    rw (p.1, p.2) (asks_on _ _ e.stands c.ask_next.result e.remaining _ _ (Err c.in_err-on_report-in-Ok.field-0.0) tt (rw c.in_err-on_report-in-Ok.was at stops))

pub returns-in_ok-on_report-in-Ok-clause-keeps : goal.returns-in_ok-on_report-in-Ok-clause-keeps
returns-in_ok-on_report-in-Ok-clause-keeps g c =
    let e = c.ask_next.ensures in
    asks_on _ _ e.stands c.ask_next.result e.remaining _ _ (Ok cames.Answered) (ap has_failed c.in-Ok.is) tt

pub returns-in_err-on_report-in-Err-Rejected-clause-keeps :
    goal.returns-in_err-on_report-in-Err-Rejected-clause-keeps
returns-in_err-on_report-in-Err-Rejected-clause-keeps g c =
    let p = err_from_is_err_and c.from_residual-in_err-on_report-in-Err-Rejected.result c.from_residual-in_err-on_report-in-Err-Rejected.ensures.1 in
    let e = c.ask_next.ensures in
    let stops = line_stops (counts 0 0 0 (g.K.Sink.faults c.args.report.now) 0) (counts 0 0 0 (g.K.Sink.faults c.write_dropped.new.sink) 0) c.write_dropped.result c.on_report-in-Err-Rejected.result c.on_report-in-Err-Rejected.ensures c.write_dropped.ensures.cause.failed in
    rw (p.1, p.2) (asks_on _ _ e.stands c.ask_next.result e.remaining _ _ (Err c.in_err-on_report-in-Err-Rejected.field-0.0) tt (rw c.in_err-on_report-in-Err-Rejected.was at stops))

pub returns-in_ok-on_report-in-Err-Rejected-clause-keeps :
    goal.returns-in_ok-on_report-in-Err-Rejected-clause-keeps
returns-in_ok-on_report-in-Err-Rejected-clause-keeps g c =
    let e = c.ask_next.ensures in
    let first = c.in-Err-Rejected.is in
    let second = c.in-Err-Rejected.field-0-is in
    let whole : c.ask_next.result ≡ Err (unanswered.Rejected c.in-Err-Rejected.round c.in-Err-Rejected.reason) = cc in
    asks_on _ _ e.stands c.ask_next.result e.remaining _ _ (Ok (cames.Dropped c.in-Err-Rejected.round c.in-Err-Rejected.reason)) (ap has_failed whole) tt

pub returns-in-Err-Fault-clause-keeps : goal.returns-in-Err-Fault-clause-keeps
returns-in-Err-Fault-clause-keeps g c =
    let e = c.ask_next.ensures in
    let asked = rw (c.in-Err-Fault.is, c.in-Err-Fault.field-0-is) at e.keeps in
    let stops = (unjudged_keeps c.args.session.now.version _ _ (sink g.K.Sink.talk g.K.Sink.faults g.K.Sink.wants c.args.report.now) (sink g.K.Sink.talk g.K.Sink.faults g.K.Sink.wants c.args.report.now) _ _ c.in-Err-Fault.fault asked).fault 0 0 0 0 in
    rw c.status_of_fault.ensures (asks_on _ _ e.stands c.ask_next.result e.remaining _ _ (Err (status_of_fault c.in-Err-Fault.fault)) tt stops)

pub returns-in_err-on_report-in-Ok-clause-goes_on : goal.returns-in_err-on_report-in-Ok-clause-goes_on
returns-in_err-on_report-in-Ok-clause-goes_on g c =
    let p = err_from_is_err_and c.from_residual.result c.from_residual.ensures.1 in
    let on = rw c.in_err-on_report-in-Ok.was at c.on_report.ensures in
    rw (p.1, p.2) (line_goes_on c.write_line.result c.in_err-on_report-in-Ok.field-0.0 on)

pub returns-in_err-on_report-in-Err-Rejected-clause-goes_on :
    goal.returns-in_err-on_report-in-Err-Rejected-clause-goes_on
returns-in_err-on_report-in-Err-Rejected-clause-goes_on g c =
    let p = err_from_is_err_and c.from_residual-in_err-on_report-in-Err-Rejected.result c.from_residual-in_err-on_report-in-Err-Rejected.ensures.1 in
    let on = rw c.in_err-on_report-in-Err-Rejected.was at c.on_report-in-Err-Rejected.ensures in
    rw (p.1, p.2) (line_goes_on c.write_dropped.result c.in_err-on_report-in-Err-Rejected.field-0.0 on)

pub returns-in-Err-Fault-clause-goes_on : goal.returns-in-Err-Fault-clause-goes_on
returns-in-Err-Fault-clause-goes_on g c = rw c.status_of_fault.ensures (fault_goes_on c.in-Err-Fault.fault)
