-- How the call ended.
use Rattle.std.proofs.Common.{◌≡◌, ◌∙◌, ℕ, ◌+◌, List, Some, ap, arith, refl, subst, sym}
use Rattle.std.proofs.lemmas.Grind.{common_steps}
use Rattle.sip_ports.specs.Desk.{Loads}
use Rattle.sip_ports.proofs.TalkLemmas.{GoesOn-refl}
use Rattle.sip_vector.specs.declared.tally.Tally.{Tally}
use Rattle.sip_sketch.specs.Risen.{HasRisen}
use Rattle.sip_sketch.specs.declared.filling.Pause.TheVariants.{Full, Ended, Stopped}
use Rattle.sip_sketch.specs.Sketches.{SketchValues, spelled_file}
use Rattle.sip_sketch.specs.inside.Causes.{with_first, with_sketch}
use Rattle.sip_sketch.specs.inside.Following.{status_of}
use Rattle.sip_sketch.specs.inside.Keeping.{Closes}
use Rattle.sip_sketch.proofs.Free.{closes_free}
use Rattle.sip_sketch.proofs.Rises.{risen_since, stream_risen}
use Rattle.sip_sketch.proofs.Watched.{added_to, ended_before, ready, stopped_before, unread}
use Rattle.sip_sketch.proofs.watching.watch.Goals as goal

pub returns-in-Err-clause-cause : goal.returns-in-Err-clause-cause
returns-in-Err-clause-cause g c = λ before now.
    let a = g.A.Source.faults c.args.first.now in
    c.in-Err.ensures.cause (with_first before a) (with_first now a)

pub returns-in-Err-read_part-clause-watches : goal.returns-in-Err-read_part-clause-watches
returns-in-Err-read_part-clause-watches g c =
    let start = g.D.Desk.start c.args.desk.now in
    let old = g.D.Sink.talk c.args.desk.now in
    let left = g.A.Source.left c.args.first.now in
    let loads : Loads start old (Some c.deref.result.now) = subst (λ (l : List ℕ). Loads start old (Some l)) (sym c.deref.ensures.value) (rw c.in-Ok-Some.field-0-is at c.in-Ok-Some.ensures.found) in
    unread c.args.form c.args.at c.args.every start left old left (g.D.Sink.talk c.load_file.new.desk) c.deref.result.now c.in-Err-read_part.status c.in-Err-read_part.ensures.fault loads refl c.load_file.ensures.talk

pub returns-in-Full-clause-watches : goal.returns-in-Full-clause-watches
returns-in-Full-clause-watches g c =
    let here = ready c.args.form c.args.at c.args.every (g.D.Desk.start c.args.desk.now) (g.A.Source.left c.args.first.now) (g.D.Sink.talk c.args.desk.now) (g.D.Sink.talk c.load_file.new.desk)
    c.in-Ok.sketch c.tally-records.result c.begins_at-start.result c.in-Ok.ensures.found c.deref.ensures.value (rw c.in-Ok-Some.field-0-is at c.in-Ok-Some.ensures.found) c.load_file.ensures.talk
    c.tally-records.ensures c.begins_at-start.ensures (grind (arith, common_steps)) (omega arith) in
    let (passed, count, reads) = c.pass_over-passed.ensures.passed in
    let records = ap (λ (t : Tally). t.count) c.tally-records.ensures in
    added_to here (g.A.Source.left c.pass_over-passed.new.first) passed (omega (arith, records, count, c.pass_over-passed.ensures.full c.in-Full.is))
    (λ bytes told. rw (c.depth.ensures, c.keep_tables.ensures, c.in-Full.is) at (reads bytes told))
    (g.A.Source.left c.follow.new.first) (g.D.Sink.talk c.follow.new.desk) c.follow.result (rw c.keep_tables.ensures at c.follow.ensures.adds)

pub returns-in-Full-clause-cause : goal.returns-in-Full-clause-cause
returns-in-Full-clause-cause g c = λ before now.
    risen_since before now (g.D.Sink.faults c.load_file.new.desk) (g.D.Sink.faults c.args.desk.now) (g.A.Source.faults c.pass_over-passed.new.first) (g.A.Source.faults c.args.first.now)
    (g.D.Sink.faults c.follow.new.desk) (g.A.Source.faults c.follow.new.first) c.follow.result c.load_file.ensures.desk.later c.pass_over-passed.ensures.first.later (c.follow.ensures.cause before now)

pub returns-in-Ended-clause-watches : goal.returns-in-Ended-clause-watches
returns-in-Ended-clause-watches g c =
    let here = ready c.args.form c.args.at c.args.every (g.D.Desk.start c.args.desk.now) (g.A.Source.left c.args.first.now) (g.D.Sink.talk c.args.desk.now) (g.D.Sink.talk c.load_file.new.desk)
    c.in-Ok.sketch c.tally-records.result c.begins_at-start.result c.in-Ok.ensures.found c.deref.ensures.value (rw c.in-Ok-Some.field-0-is at c.in-Ok-Some.ensures.found) c.load_file.ensures.talk
    c.tally-records.ensures c.begins_at-start.ensures (grind (arith, common_steps)) (omega arith) in
    let (passed, count, reads) = c.pass_over-passed.ensures.passed in
    let records = ap (λ (t : Tally). t.count) c.tally-records.ensures in
    let fewer = c.pass_over-passed.ensures.fewer (λ full. let two : Ended ≡ Full = sym c.in-Ended.is ∙ full in absurd cc) in
    let mid = g.D.Sink.talk c.load_file.new.desk in
    ended_before here (g.A.Source.left c.pass_over-passed.new.first) (c.begins_at-start.result + c.pass_over-passed.result.0) passed
    (omega (arith, count)) (omega (arith, records, fewer)) mid (GoesOn-refl mid) (λ bytes told. rw (c.depth.ensures, c.keep_tables.ensures, c.in-Ended.is) at (reads bytes told))

pub returns-clause-watches : goal.returns-clause-watches
returns-clause-watches g c =
    let here = ready c.args.form c.args.at c.args.every (g.D.Desk.start c.args.desk.now) (g.A.Source.left c.args.first.now) (g.D.Sink.talk c.args.desk.now) (g.D.Sink.talk c.load_file.new.desk)
    c.in-Ok.sketch c.tally-records.result c.begins_at-start.result c.in-Ok.ensures.found c.deref.ensures.value (rw c.in-Ok-Some.field-0-is at c.in-Ok-Some.ensures.found) c.load_file.ensures.talk
    c.tally-records.ensures c.begins_at-start.ensures (grind (arith, common_steps)) (omega arith) in
    let (passed, count, reads) = c.pass_over-passed.ensures.passed in
    let records = ap (λ (t : Tally). t.count) c.tally-records.ensures in
    let fault = c.in-Stopped.fault in
    let place = c.begins_at-start.result + c.pass_over-passed.result.0 in
    let fewer = c.pass_over-passed.ensures.fewer (λ full. let two : Stopped fault ≡ Full = sym c.in-Stopped.is ∙ full in absurd cc) in
    stopped_before here (g.A.Source.left c.pass_over-passed.new.first) place passed (omega (arith, count)) (omega (arith, records, fewer))
    (g.D.Sink.talk c.close.new.desk) fault c.close.result (λ bytes told. rw (c.depth.ensures, c.keep_tables.ensures, c.in-Stopped.is) at (reads bytes told))
    (subst (λ (s : SketchValues). Closes (g.D.Sink.talk c.load_file.new.desk) (g.D.Sink.talk c.close.new.desk) (spelled_file s) (status_of fault place) c.close.result) c.keep_tables.ensures
    (rw c.status_of-status.ensures at c.close.ensures.talk))

pub returns-clause-cause : goal.returns-clause-cause
returns-clause-cause g c = λ before now.
    let a = g.A.Source.faults c.args.first.now in
    let b = g.A.Source.faults c.pass_over-passed.new.first in
    let was = with_first before a in
    let is = with_first now b in
    let d = g.D.Sink.faults c.load_file.new.desk in
    let e = g.D.Sink.faults c.close.new.desk in
    let stream : HasRisen (with_sketch was d) (with_sketch is e) c.status_of-status.result =
    rw c.status_of-status.ensures (stream_risen (with_sketch was d) (with_sketch is e) c.in-Stopped.fault (c.begins_at-start.result + c.pass_over-passed.result.0) (λ fault. c.pass_over-passed.ensures.cause (c.in-Stopped.is ∙ ap Stopped fault))) in
    risen_since before now d (g.D.Sink.faults c.args.desk.now) a a e b c.close.result c.load_file.ensures.desk.later (omega arith) (c.close.ensures.cause was is stream)

pub returns-clause-free : goal.returns-clause-free
returns-clause-free g c = λ sure busy.
    closes_free c.in-Stopped.fault (c.begins_at-start.result + c.pass_over-passed.result.0) _ _ _ c.close.result
    (rw c.status_of-status.ensures at c.close.ensures.talk) busy
