-- The talk was not opened, or the questions were asked.
use Rattle.std.proofs.Common.{◌≡◌, ◌≤◌, Ok, Err, ap, ◌∙◌, arith}
use Rattle.std.proofs.lemmas.Result.{err_from_is_err_and}
use Rattle.sip_ports.proofs.TalkLemmas.{GoesOn-refl}
use Rattle.sip_questions.specs.Questions.{version_for}
use Rattle.sip_sketch.specs.Sketches.{SketchValues}
use Rattle.sip_ask.specs.declared.status.AskStatus.TheVariants as statuses
use Rattle.sip_ask.proofs.AskEnds.{opened-asks, refusal-risen, refused-asks, talked-asks, unbusy-refusal}
use Rattle.sip_ask.proofs.Refusing.{choice-refuses}
use Rattle.sip_ask.proofs.Stops.{risen_if}
use Rattle.sip_ask.proofs.StepsTaken.{asks_as, opens_as, stops_so, stores_as}
use Rattle.sip_ask.proofs.desk_asking.take_steps.Goals as goal

pub returns-in_err-places-clause-asks : goal.returns-in_err-places-clause-asks
returns-in_err-places-clause-asks g c =
    let loads = c.in_ok-sketch.ensures.loads in
    let p = err_from_is_err_and c.from_residual-in_err-places.result c.from_residual-in_err-places.ensures.1 in
    rw (p.1, p.2)
    (refused-asks c.args.questions.now (g.D.Desk.start c.args.desk.now) (g.D.Sink.talk c.args.desk.now) (g.D.Sink.talk c.load.new.desk) (g.K.Sink.talk c.args.report.now) (g.K.Sink.talk c.args.report.now)
    c.in_ok-sketch.sketch loads.0 loads.1 c.in_err-places.field-0.0 c.in_err-places.ensures c.load.ensures.talk (GoesOn-refl _))

pub returns-in_err-places-clause-cause : goal.returns-in_err-places-clause-cause
returns-in_err-places-clause-cause g c =
    let p = err_from_is_err_and c.from_residual-in_err-places.result c.from_residual-in_err-places.ensures.1 in
    let status = c.in_err-places.field-0.0 in
    rw (p.1, p.2) (refusal-risen _ _ _ _ status (choice-refuses c.in_ok-sketch.sketch c.args.questions.now status c.in_err-places.ensures))

pub returns-in_err-places-clause-free : goal.returns-in_err-places-clause-free
returns-in_err-places-clause-free g c = λ sure busy.
    let p = err_from_is_err_and c.from_residual-in_err-places.result c.from_residual-in_err-places.ensures.1 in
    let status = c.in_err-places.field-0.0 in
    let told = rw (p.1, p.2) at busy in
    let same : status ≡ statuses.Busy = cc in
    unbusy-refusal status (choice-refuses c.in_ok-sketch.sketch c.args.questions.now status c.in_err-places.ensures) same

pub returns-clause-cause : goal.returns-clause-cause
returns-clause-cause g c =
    let before = g.D.Sink.faults c.args.desk.now in
    let loaded = c.load.ensures.desk in
    let opened = c.open.ensures.link in
    let later : before ≤ g.D.Sink.faults c.open.new.link = omega (arith, loaded.later, opened.later) in
    risen_if before (g.D.Sink.faults c.open.new.link) (g.D.Sink.faults c.ask_all.new.desk) (g.K.Sink.faults c.args.report.now) (g.K.Sink.faults c.args.report.now) (g.K.Sink.faults c.ask_all.new.report)
    c.ask_all.result later (omega arith) c.ask_all.ensures.cause

pub returns-in_err-open-clause-asks : goal.returns-in_err-open-clause-asks
returns-in_err-open-clause-asks g c =
    let asked = c.args.questions.now in
    let s = c.in_ok-sketch.sketch in
    let loads = c.in_ok-sketch.ensures.loads in
    let p = err_from_is_err_and c.from_residual-in_err-open.result c.from_residual-in_err-open.ensures.1 in
    let opens = opens_as _ _ _ _ _ _ c.version_for-version.ensures c.depth-depth.ensures c.tally-tally.ensures (g.D.Sink.talk c.load.new.desk) (g.D.Sink.talk c.open.new.link) (Err c.in_err-open.field-0.0) c.in_err-open.ensures.opens in
    rw (p.1, p.2)
    (opened-asks asked (g.D.Desk.start c.args.desk.now) (g.D.Sink.talk c.args.desk.now) (g.D.Sink.talk c.open.new.link) (g.K.Sink.talk c.args.report.now) (g.K.Sink.talk c.args.report.now)
    s loads.0 loads.1 c.in_ok-places.places.items c.in_ok-places.ensures (g.D.Sink.talk c.load.new.desk) c.load.ensures.talk c.in_err-open.field-0.0 opens (GoesOn-refl _))

pub returns-clause-asks : goal.returns-clause-asks
returns-clause-asks g c =
    let asked = c.args.questions.now in
    let s = c.in_ok-sketch.sketch in
    let places = c.in_ok-places.places.items in
    let loads = c.in_ok-sketch.ensures.loads in
    let own = c.in_ok-asking.asking in
    let near = g.D.Sink.talk c.load.new.desk in
    let mid = g.D.Sink.talk c.open.new.link in
    let new = g.D.Sink.talk c.ask_all.new.desk in
    let version : own.asker.version ≡ version_for s.depth asked = c.in_ok-asking.ensures.ready.version ∙ ap (λ (t : SketchValues). version_for t.depth asked) c.in_ok-asking.ensures.sketch in
    let opens = opens_as _ _ _ _ _ _ c.version_for-version.ensures c.depth-depth.ensures c.tally-tally.ensures near mid (Ok c.in_ok-open.field-0) c.in_ok-open.ensures.opens in
    let stores = stores_as own.asker.version (version_for s.depth asked) own.sketch s c.deref.result.now places version c.in_ok-asking.ensures.sketch c.deref.ensures.0 mid new c.ask_all.ensures.stores in
    talked-asks asked (g.D.Desk.start c.args.desk.now) (g.D.Sink.talk c.args.desk.now) new (g.K.Sink.talk c.args.report.now) (g.K.Sink.talk c.ask_all.new.report)
    s loads.0 loads.1 places c.in_ok-places.ensures near c.load.ensures.talk mid opens stores c.ask_all.result (stops_so c.ask_all.result c.ask_all.ensures.stops)
    (λ stream stands. asks_as own.asker.version (version_for s.depth asked) own.sketch s c.deref.result.now places version c.in_ok-asking.ensures.sketch c.deref.ensures.0 mid new stream asked
    (g.K.Sink.talk c.args.report.now) (g.K.Sink.talk c.ask_all.new.report) c.ask_all.result (c.ask_all.ensures.asks stream (c.in_ok-asking.ensures.stands stream stands)))
