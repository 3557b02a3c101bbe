-- What an honest helper sends is accepted.
use Rattle.sip_ask.specs.declared.status.AskStatus.TheVariants as statuses
use Rattle.sip_ask.proofs.HonestAsks.{completed}
use Rattle.sip_ask.proofs.SketchCounted.{counts-on}
use Rattle.sip_ask.proofs.desk_asking.ask.Goals as goal

pub returns-in-Ok-clause-completes : goal.returns-in-Ok-clause-completes
returns-in-Ok-clause-completes g c =
    completed c.args.questions.now (g.D.Desk.start c.args.desk.now) (g.D.Sink.talk c.args.desk.now) (g.D.Sink.talk c.take_steps.new.desk) (g.K.Sink.talk c.args.report.now) (g.K.Sink.talk c.take_steps.new.report)
    (g.D.Sink.faults c.args.desk.now) (g.D.Sink.faults c.take_steps.new.desk) (g.K.Sink.faults c.args.report.now) (g.K.Sink.faults c.take_steps.new.report)
    statuses.Accepted c.in-Ok.ensures.asks tt

pub returns-in-Err-clause-completes : goal.returns-in-Err-clause-completes
returns-in-Err-clause-completes g c =
    completed c.args.questions.now (g.D.Desk.start c.args.desk.now) (g.D.Sink.talk c.args.desk.now) (g.D.Sink.talk c.take_steps.new.desk) (g.K.Sink.talk c.args.report.now) (g.K.Sink.talk c.take_steps.new.report)
    (g.D.Sink.faults c.args.desk.now) (g.D.Sink.faults c.take_steps.new.desk) (g.K.Sink.faults c.args.report.now) (g.K.Sink.faults c.take_steps.new.report)
    c.in-Err.status c.in-Err.ensures.asks c.in-Err.ensures.cause

pub returns-in-Ok-clause-counts : goal.returns-in-Ok-clause-counts
returns-in-Ok-clause-counts g c =
    counts-on c.args.questions.now (g.D.Desk.start c.args.desk.now) (g.D.Sink.talk c.args.desk.now) (g.D.Sink.talk c.take_steps.new.desk) (g.K.Sink.talk c.args.report.now) (g.K.Sink.talk c.take_steps.new.report)
    (g.D.Sink.faults c.args.desk.now) (g.D.Sink.faults c.take_steps.new.desk) (g.K.Sink.faults c.args.report.now) (g.K.Sink.faults c.take_steps.new.report)
    statuses.Accepted tt

pub returns-in-Err-clause-counts : goal.returns-in-Err-clause-counts
returns-in-Err-clause-counts g c =
    counts-on c.args.questions.now (g.D.Desk.start c.args.desk.now) (g.D.Sink.talk c.args.desk.now) (g.D.Sink.talk c.take_steps.new.desk) (g.K.Sink.talk c.args.report.now) (g.K.Sink.talk c.take_steps.new.report)
    (g.D.Sink.faults c.args.desk.now) (g.D.Sink.faults c.take_steps.new.desk) (g.K.Sink.faults c.args.report.now) (g.K.Sink.faults c.take_steps.new.report)
    c.in-Err.status c.in-Err.ensures.cause
