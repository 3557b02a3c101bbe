-- At each end of the steps the facts of the calls before it are handed to the lemma of that end.
use Rattle.std.proofs.Common.{◌≡◌, [], Err, ap, subst, ◌∙◌, length}
use Rattle.std.proofs.lemmas.List.{length-map}
use Rattle.std.proofs.lemmas.Result.{err_from_is_err_and}
use Rattle.sip_ports.proofs.TalkLemmas.{GoesOn-refl}
use Rattle.sip_duel.proofs.KeepsLemmas.{kept_is_honest}
use Rattle.sip_verifier.specs.declared.task.Task.{Task}
use Rattle.sip_verifier.specs.Gathering.{legal}
use Rattle.sip_verifier.specs.Concluding.{status_of}
use Rattle.sip_verifier.specs.Negatives.{heavy_negatives}
use Rattle.sip_verifier.specs.Snapshots.{counts}
use Rattle.sip_verifier.specs.Sittings.{Sitting}
use Rattle.sip_verifier.proofs.RunNegatives.{of_gathered}
use Rattle.sip_verifier.proofs.RunTalks.{nothing_reported, some_value, written_is}
use Rattle.sip_session.specs.Links.{talks_of}
use Rattle.sip_session.specs.inside.Beginning.{Begins}
use Rattle.sip_session.specs.inside.Hearing.{AllTalks}
use Rattle.sip_session.proofs.Begun.{helpers_few, never_rose, task_bounds, wide_done}
use Rattle.sip_session.proofs.PanelLinks.{told_asking, told_early, told_farewell}
use Rattle.sip_session.proofs.PanelRuns.{asking_stops, beginning_stops, farewell_listed, halts_wrote, left_stand, not_begun, panel_tells, said_farewell, stopped_asking, told_nothing}
use Rattle.sip_session.proofs.Places.{told_length, told_some}
use Rattle.sip_session.proofs.SeatNegatives.{of_seats}
use Rattle.sip_session.proofs.Seats.{length-seats}
use Rattle.sip_session.proofs.panels.panel_steps.Goals as goal

pub returns-in_err-session-clause-keeps : goal.returns-in_err-session-clause-keeps
returns-in_err-session-clause-keeps g c =
    let task = c.args.task.now in
    let (deep, most, room) = task_bounds (length c.args.links.now) task _ c.get-levels.ensures.same
    c.get-levels.ensures.some c.get-levels.ensures.most c.requires.some c.requires.few in
    let old : AllTalks = talks_of c.args.links.now in
    let mid : AllTalks = talks_of c.begin.new.links in
    let p = err_from_is_err_and c.from_residual.result c.from_residual.ensures.1 in
    let stop = c.in_err-session.ensures.fault in
    let cause =
    beginning_stops (g.A.Source.faults c.args.first.now) (g.A.Source.faults c.begin.new.first)
    (g.B.Source.faults c.args.second.now) (g.B.Source.faults c.begin.new.second)
    (g.K.Sink.faults c.args.report.now) (g.K.Sink.faults c.args.report.now)
    c.in_err-session.field-0.0 stop.1 in
    rw (p.1, p.2) (record {
      promises = λ x t.
          not_begun (length c.args.links.now) task c.requires.some c.requires.done deep most
          room x _ _
          never_rose never_rose (g.A.Source.left c.begin.new.first) old
          (length-map c.args.links.now (λ l. l.kept.talk.items))
          (told_nothing (λ l. l.kept.talk.items) c.args.links.now c.requires.new) mid t.talks
          (told_length (λ l. l.kept.talk.items) c.args.links.now c.begin.new.links
          c.begin.ensures.count)
          (nothing_reported _ _ t.report) c.in_err-session.field-0.0
          (subst (λ (w : Task). Begins w x.stream x.seed (g.A.Source.left c.begin.new.first) old
          mid (length c.args.links.now) (Err c.in_err-session.field-0.0))
          c.seats_task-wide.ensures (c.in_err-session.ensures.begins x.stream x.seed
          t.stream t.seed))
          cause;
      moves = λ told. panel_tells _ _ told c.begin.ensures.told [] (GoesOn-refl _);
      fault = cause;
      listed = stop.0;
    })

pub returns-in_err-gone-clause-keeps : goal.returns-in_err-gone-clause-keeps
returns-in_err-gone-clause-keeps g c =
    let task = c.args.task.now in
    let (deep, most, room) = task_bounds (length c.args.links.now) task _ c.get-levels.ensures.same
    c.get-levels.ensures.some c.get-levels.ensures.most c.requires.some c.requires.few in
    let some = told_some (λ l. l.kept.talk.items) c.args.links.now c.requires.some in
    let lent = c.deref_mut.ensures.value in
    let p = err_from_is_err_and c.from_residual-in_err-gone.result
    c.from_residual-in_err-gone.ensures.1 in
    let stops =
    asking_stops (g.A.Source.faults c.args.first.now) (g.A.Source.faults c.begin.new.first)
    (g.B.Source.faults c.args.second.now) (g.B.Source.faults c.begin.new.second)
    (g.K.Sink.faults c.args.report.now) (g.K.Sink.faults c.ask_all.new.report)
    c.in_err-gone.field-0.0 c.in_err-gone.ensures.keeps.fault in
    rw (p.1, p.2) (record {
      promises = λ x t.
          let (seats, heard, starts) =
          rw c.seats_task-wide.ensures at (c.in_ok-session.ensures.begins x.stream x.seed
          t.stream t.seed) in
          let stand = left_stand _ _ _ _ _ _ seats _ some heard starts in
          stopped_asking (λ l. l.kept.talk.items) c.args.links.now c.begin.new.links
          c.begin.ensures.count c.requires.new task c.requires.some c.requires.done deep most room
          x _ _ _ t.unread seats heard c.in_ok-session.session.value starts
          (g.K.Sink.talk c.args.report.now) (g.K.Sink.talk c.ask_all.new.report)
          (λ bytes went. written_is _ _ bytes x.report went t.report) c.len-queries.result
          c.len-queries.ensures.value c.ask_all.new.links c.ask_all.ensures.count t.talks
          c.in_err-gone.field-0.0
          (rw (lent, c.begin.ensures.count)
          at (c.in_err-gone.ensures.trails (legal task x.stream) (rw lent stand))) stops.0;
      moves = λ told.
          let bytes = some_value _ told.first in
          let (seats, heard, starts) =
          rw c.seats_task-wide.ensures at (c.in_ok-session.ensures.begins bytes.0 _ bytes.1
          (some_value _ told.second).1) in
          let wrote =
          halts_wrote _ _ _ _ _ _ _ _ _ _ c.in_err-gone.field-0.0
          (c.in_err-gone.ensures.trails (legal task bytes.0)
          (rw lent (left_stand _ _ _ _ _ _ seats _ some heard starts))) in
          panel_tells _ _ told c.begin.ensures.told wrote.0 wrote.1;
      fault = stops.0;
      listed = stops.1;
    })

pub returns-clause-keeps : goal.returns-clause-keeps
returns-clause-keeps g c =
    let task = c.args.task.now in
    let (deep, most, room) = task_bounds (length c.args.links.now) task _ c.get-levels.ensures.same
    c.get-levels.ensures.some c.get-levels.ensures.most c.requires.some c.requires.few in
    let some = told_some (λ l. l.kept.talk.items) c.args.links.now c.requires.some in
    let lent = c.deref_mut.ensures.value in
    let before =
    counts (g.A.Source.faults c.args.first.now) (g.B.Source.faults c.args.second.now) 0
    (g.K.Sink.faults c.args.report.now) 0 in
    let now =
    counts (g.A.Source.faults c.begin.new.first) (g.B.Source.faults c.begin.new.second) 0
    (g.K.Sink.faults c.ask_all.new.report) 0 in
    let ends =
    farewell_listed before now c.say_bye.result c.on_link.result c.on_link.ensures
    c.say_bye.ensures.cause in
    record {
      promises = λ x t.
          let (seats, heard, starts) =
          rw c.seats_task-wide.ensures at (c.in_ok-session.ensures.begins x.stream x.seed
          t.stream t.seed) in
          let stand = left_stand _ _ _ _ _ _ seats _ some heard starts in
          said_farewell (λ l. l.kept.talk.items) c.args.links.now c.begin.new.links
          c.begin.ensures.count c.requires.new task c.requires.some c.requires.done deep most room
          x _ _ _ t.unread seats heard c.in_ok-session.session.value starts
          (g.K.Sink.talk c.args.report.now) (g.K.Sink.talk c.ask_all.new.report)
          (λ bytes went. written_is _ _ bytes x.report went t.report) c.len-queries.result
          c.len-queries.ensures.value c.ask_all.new.links c.say_bye.new.links
          c.ask_all.ensures.count c.say_bye.ensures.count t.talks c.in_ok-gone.gone
          (rw (lent, c.begin.ensures.count)
          at (c.in_ok-gone.ensures.trails (legal task x.stream) (rw lent stand)))
          c.say_bye.result c.on_link.result c.on_link.ensures c.say_bye.ensures.cause
          (λ k less. rw c.version.ensures at (c.say_bye.ensures.talks k less));
      moves = λ told.
          let bytes = some_value _ told.first in
          let (seats, heard, starts) =
          rw c.seats_task-wide.ensures at (c.in_ok-session.ensures.begins bytes.0 _ bytes.1
          (some_value _ told.second).1) in
          let trails = c.in_ok-gone.ensures.trails (legal task bytes.0)
          (rw lent (left_stand _ _ _ _ _ _ seats _ some heard starts)) in
          panel_tells _ _ told c.begin.ensures.told _ trails.trail.report;
      fault = ends.0;
      listed = ends.1;
    }

pub begin-requires-clause-done : goal.begin-requires-clause-done
begin-requires-clause-done g c =
    rw c.seats_task-wide.ensures (wide_done _ c.args.task.now c.requires.some c.requires.done)

pub begin-requires-clause-few : goal.begin-requires-clause-few
begin-requires-clause-few g c =
    helpers_few _ (length c.args.task.now.queries.items) _ c.requires.done.some c.requires.few

pub ask_all-requires-clause-left : goal.ask_all-requires-clause-left
ask_all-requires-clause-left g c =
    let asked =
    ap (λ (s : Sitting). length s.left) c.deref_mut.ensures.value
    ∙ c.in_ok-session.ensures.left
    ∙ ap (λ (t : Task). length t.queries.items) c.seats_task-wide.ensures in
    rw (c.len-queries.ensures.value, c.begin.ensures.count)
    (asked ∙ length-seats (length c.args.links.now) c.args.task.now.queries.items)

-- what honest helpers told

pub returns-in_err-session-clause-honest : goal.returns-in_err-session-clause-honest
returns-in_err-session-clause-honest g c =
    told_early _ (λ l. l.kept.talk.items) (λ l sure. kept_is_honest _ l.kept sure)
    c.args.links.now c.begin.new.links c.begin.ensures.sure

pub returns-in_err-gone-clause-honest : goal.returns-in_err-gone-clause-honest
returns-in_err-gone-clause-honest g c =
    told_asking _ (λ l. l.kept.talk.items) (λ l sure. kept_is_honest _ l.kept sure)
    c.args.links.now c.begin.new.links c.ask_all.new.links c.ask_all.ensures.count
    c.begin.ensures.sure c.ask_all.ensures.honest

pub returns-clause-honest : goal.returns-clause-honest
returns-clause-honest g c =
    told_farewell _ (λ l. l.kept.talk.items) (λ l sure. kept_is_honest _ l.kept sure)
    c.args.links.now c.begin.new.links c.ask_all.new.links c.say_bye.new.links c.in_ok-gone.gone
    c.ask_all.ensures.count c.say_bye.ensures.count c.begin.ensures.sure
    c.ask_all.ensures.honest c.in_ok-gone.ensures.sure c.say_bye.ensures.sure
    (λ place less dropped. (c.say_bye.ensures.talks place less).0 dropped)

-- what the stream told of deltas below 0

pub returns-in_err-session-clause-negatives : goal.returns-in_err-session-clause-negatives
returns-in_err-session-clause-negatives g c = λ bytes seed all told.
    let p = err_from_is_err_and c.from_residual.result c.from_residual.ensures.1 in
    rw (p.1, p.2) (of_seats (length c.args.links.now) c.args.task.now bytes
    c.in_err-session.field-0.0 _ c.requires.some
    (rw c.seats_task-wide.ensures at (c.in_err-session.ensures.negatives bytes seed all told)))

pub returns-in_err-gone-clause-negatives : goal.returns-in_err-gone-clause-negatives
returns-in_err-gone-clause-negatives g c = λ bytes seed all told.
    let p = err_from_is_err_and c.from_residual-in_err-gone.result
    c.from_residual-in_err-gone.ensures.1 in
    let are = subst (λ (w : Task). c.begin.new.negatives
    ≡ heavy_negatives w.queries.items (legal w bytes)) c.seats_task-wide.ensures
    (c.in_ok-session.ensures.negatives bytes seed all told) in
    rw (p.1, p.2) (of_seats (length c.args.links.now) c.args.task.now bytes
    c.in_err-gone.field-0.0 _ c.requires.some (of_gathered _ bytes c.in_err-gone.field-0.0 _ are))

pub returns-clause-negatives : goal.returns-clause-negatives
returns-clause-negatives g c = λ bytes seed all told.
    let are = subst (λ (w : Task). c.begin.new.negatives
    ≡ heavy_negatives w.queries.items (legal w bytes)) c.seats_task-wide.ensures
    (c.in_ok-session.ensures.negatives bytes seed all told) in
    of_seats (length c.args.links.now) c.args.task.now bytes (status_of c.on_link.result) _
    c.requires.some (of_gathered _ bytes (status_of c.on_link.result) _ are)
