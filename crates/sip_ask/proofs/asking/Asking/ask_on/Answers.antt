-- The file was stored, and then the question was asked.
use Rattle.std.proofs.Common.{refl, rules}
use Rattle.sip_questions.specs.Questions.{asking}
use Rattle.sip_ask.specs.inside.Ending.{of_run}
use Rattle.sip_ask.proofs.Stops.{never_unkept, risen_if, run_rose}
use Rattle.sip_ask.proofs.TurnsTaken.{asked_came, stored_then}
use Rattle.sip_ask.proofs.asking.Asking.ask_on.Goals as goal

pub returns-clause-came : goal.returns-clause-came
returns-clause-came g c = λ stream question stands first.
    let a = c.args.self.now.asker in
    let s = c.args.self.now.sketch in
    let r = c.check_next.result in
    let stored = rw c.in_ok-mark.was at c.mark.ensures.talk in
    let checks = c.check_next.ensures.checks stream (question, _) stands first in
    let kept = never_unkept (g.D.Sink.faults c.mark.new.desk) (g.D.Sink.faults c.check_next.new.peer) (g.K.Sink.faults c.args.report.now) (g.K.Sink.faults c.check_next.new.report) 0 0 refl r (c.check_next.ensures.keeps.fault 0 0 0 0) in
    rw c.on_run.ensures (asked_came (asking a.version a.depth stream) s c.args.number question _ (g.D.Sink.talk c.mark.new.desk) _ _ _ c.args.place r stored checks kept)

pub returns-clause-stores : goal.returns-clause-stores
returns-clause-stores g c =
    let stored = rw c.in_ok-mark.was at c.mark.ensures.talk in
    rw c.on_run.ensures (stored_then c.args.self.now.sketch c.args.place _ (g.D.Sink.talk c.mark.new.desk) _ _ _ c.args.self.now.asker.version c.check_next.result stored c.check_next.ensures.keeps.kept)

pub returns-clause-cause : goal.returns-clause-cause
returns-clause-cause g c =
    let rose = run_rose (g.D.Sink.faults c.mark.new.desk) (g.D.Sink.faults c.check_next.new.peer) (g.K.Sink.faults c.args.report.now) (g.K.Sink.faults c.check_next.new.report) 0 0 refl c.check_next.result (c.check_next.ensures.keeps.fault 0 0 0 0) in
    rw c.on_run.ensures (risen_if (g.D.Sink.faults c.args.desk.now) (g.D.Sink.faults c.mark.new.desk) (g.D.Sink.faults c.check_next.new.peer) (g.K.Sink.faults c.args.report.now) (g.K.Sink.faults c.args.report.now) (g.K.Sink.faults c.check_next.new.report) (of_run c.check_next.result) c.mark.ensures.desk.later (search rules) rose)
