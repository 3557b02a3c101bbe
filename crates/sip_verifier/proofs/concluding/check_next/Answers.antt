-- A line that could not be written whole, that of a rejection, and the line of an answer.
use Rattle.std.proofs.Common.{Err, refl}
use Rattle.std.proofs.lemmas.Result.{err_from_is_err_and}
use Rattle.sip_verifier.proofs.KeptChecks.{line_keeps, rejected_keeps, unjudged_keeps}
use Rattle.sip_verifier.proofs.KeptQueries.{line_kept, rejection_kept}
use Rattle.sip_verifier.proofs.QueriesChecked.{fault_checked, line_checked, rejection_cut}
use Rattle.sip_verifier.proofs.concluding.check_next.Goals as goal

pub returns-in_err-on_report-in-Err-Rejected-clause-checks :
    goal.returns-in_err-on_report-in-Err-Rejected-clause-checks
returns-in_err-on_report-in-Err-Rejected-clause-checks g c = λ stream ask stands first.
    let s = g.Q.Asker.remaining c.args.asker.now in
    let asks = rw (c.in-Err-Rejected.is, c.in-Err-Rejected.field-0-is) at (c.ask_next.ensures.asks stream ask stands first) in
    let p = err_from_is_err_and c.from_residual.result c.from_residual.ensures.1 in
    let on = rw c.in_err-on_report-in-Err-Rejected.was at c.on_report-in-Err-Rejected.ensures in
    rw (p.1, p.2) (rejection_cut (g.Q.Asker.asking s.version s.depth stream) _ _ _ _ _ _ _ c.in-Err-Rejected.round c.in-Err-Rejected.reason c.write_rejection.result c.in_err-on_report-in-Err-Rejected.field-0.0 asks c.write_rejection.ensures.talk on)

pub returns-in_ok-on_report-in-Err-Rejected-clause-checks :
    goal.returns-in_ok-on_report-in-Err-Rejected-clause-checks
returns-in_ok-on_report-in-Err-Rejected-clause-checks g c = λ stream ask stands first.
    let asks = rw (c.in-Err-Rejected.is, c.in-Err-Rejected.field-0-is) at (c.ask_next.ensures.asks stream ask stands first) in
    let wrote = rw c.in_ok-on_report-in-Err-Rejected.ensures at c.write_rejection.ensures.talk in
    (refl, record { rejected = asks; wrote = wrote })

pub returns-in-Ok-clause-checks : goal.returns-in-Ok-clause-checks
returns-in-Ok-clause-checks g c = λ stream ask stands first.
    let s = g.Q.Asker.remaining c.args.asker.now in
    let asks = rw c.in-Ok.is at (c.ask_next.ensures.asks stream ask stands first) in
    line_checked (g.Q.Asker.asking s.version s.depth stream) ask.0 ask.1 _ _ _ _ _ asks.answer c.write_line.result c.on_report.result asks.answered
    (c.write_line.ensures.line s.version s.depth stream ask.0 asks.answer asks.states) c.on_report.ensures

pub returns-in-Err-Fault-clause-checks : goal.returns-in-Err-Fault-clause-checks
returns-in-Err-Fault-clause-checks g c = λ stream ask stands first.
    let s = g.Q.Asker.remaining c.args.asker.now in
    let asks = rw (c.in-Err-Fault.is, c.in-Err-Fault.field-0-is) at (c.ask_next.ensures.asks stream ask stands first) in
    rw c.status_of_fault.ensures (fault_checked (g.Q.Asker.asking s.version s.depth stream) ask _ _ _ _ (λ given. g.Q.Asker.states c.ask_next.new.self given ask.0) c.in-Err-Fault.fault asks)

-- ---- what is kept

pub returns-in_err-on_report-in-Err-Rejected-clause-keeps :
    goal.returns-in_err-on_report-in-Err-Rejected-clause-keeps
returns-in_err-on_report-in-Err-Rejected-clause-keeps g c =
    let v = (g.Q.Asker.remaining c.args.asker.now).version in
    let p = err_from_is_err_and c.from_residual.result c.from_residual.ensures.1 in
    let on = rw c.in_err-on_report-in-Err-Rejected.was at c.on_report-in-Err-Rejected.ensures in
    let asked = rw (c.in-Err-Rejected.is, c.in-Err-Rejected.field-0-is) at c.ask_next.ensures.keeps in
    let cause = c.write_rejection.ensures.cause in
    rw (p.1, p.2) (line_keeps v _ _ _ _ _ _ c.write_rejection.result (Err c.in_err-on_report-in-Err-Rejected.field-0.0) on cause.failed cause.wanted
    (rejection_kept _ _ _ _ v c.write_rejection.result c.in_err-on_report-in-Err-Rejected.field-0.0 asked.kept on))

pub returns-in_ok-on_report-in-Err-Rejected-clause-keeps :
    goal.returns-in_ok-on_report-in-Err-Rejected-clause-keeps
returns-in_ok-on_report-in-Err-Rejected-clause-keeps g c =
    let asked = rw (c.in-Err-Rejected.is, c.in-Err-Rejected.field-0-is) at c.ask_next.ensures.keeps in
    rejected_keeps (g.Q.Asker.remaining c.args.asker.now).version _ _ _ _ _ _ c.args.number c.in-Err-Rejected.round c.in-Err-Rejected.reason asked.kept

pub returns-in-Ok-clause-keeps : goal.returns-in-Ok-clause-keeps
returns-in-Ok-clause-keeps g c =
    let v = (g.Q.Asker.remaining c.args.asker.now).version in
    let asked = rw c.in-Ok.is at c.ask_next.ensures.keeps in
    let cause = c.write_line.ensures.cause in
    line_keeps v _ _ _ _ _ _ c.write_line.result c.on_report.result c.on_report.ensures cause.failed cause.wanted
    (line_kept _ _ _ _ v c.write_line.result c.on_report.result asked.kept c.on_report.ensures)

pub returns-in-Err-Fault-clause-keeps : goal.returns-in-Err-Fault-clause-keeps
returns-in-Err-Fault-clause-keeps g c =
    let asked = rw (c.in-Err-Fault.is, c.in-Err-Fault.field-0-is) at c.ask_next.ensures.keeps in
    rw c.status_of_fault.ensures (unjudged_keeps (g.Q.Asker.remaining c.args.asker.now).version _ _ _ _ _ _ c.in-Err-Fault.fault asked)
