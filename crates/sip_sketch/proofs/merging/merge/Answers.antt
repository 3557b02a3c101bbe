-- How the call ended.
use Rattle.std.proofs.Common.{sym, subst, ◌∙◌}
use Rattle.sip_sketch.specs.Risen.{counts}
use Rattle.sip_sketch.specs.Sketches.{SketchValues, spelled_file}
use Rattle.sip_sketch.specs.declared.status.SketchStatus.TheVariants as statuses
use Rattle.sip_sketch.specs.inside.Keeping.{Closes}
use Rattle.sip_sketch.proofs.Causes.{sketch_since}
use Rattle.sip_sketch.proofs.Merged.{lacking, stored_new, sum_sketch_of, unopened, unsummed}
use Rattle.sip_sketch.proofs.merging.merge.Goals as goal

pub returns-in-Err-clause-merges : goal.returns-in-Err-clause-merges
returns-in-Err-clause-merges g c =
    unopened (g.P.SketchFiles.content c.args.parts.now) c.args.count (g.D.Desk.start c.args.desk.now) (g.D.Sink.talk c.args.desk.now) (g.D.Sink.talk c.open.new.desk)
    c.in-Err.status c.in-Err.ensures.why c.open.ensures.talk

pub returns-in-Err-clause-cause : goal.returns-in-Err-clause-cause
returns-in-Err-clause-cause g c =
    let parts = g.P.SketchFiles.faults c.args.parts.now in
    c.in-Err.ensures.cause (counts 0 0 0 parts 0) (counts 0 0 0 parts 0)

pub returns-in-Err-add_up-clause-merges : goal.returns-in-Err-add_up-clause-merges
returns-in-Err-add_up-clause-merges g c =
    unsummed (g.P.SketchFiles.content c.args.parts.now) c.args.count (g.D.Desk.start c.args.desk.now) (g.D.Sink.talk c.args.desk.now) (g.D.Sink.talk c.open.new.desk)
    c.in-Ok.sketch c.in-Ok.ensures.found c.in-Err-add_up.status c.in-Err-add_up.ensures.why c.open.ensures.talk

pub returns-in-Err-add_up-clause-cause : goal.returns-in-Err-add_up-clause-cause
returns-in-Err-add_up-clause-cause g c =
    c.in-Err-add_up.ensures.cause (counts 0 0 (g.D.Sink.faults c.args.desk.now) 0 0) (counts 0 0 (g.D.Sink.faults c.open.new.desk) 0 0)

pub returns-in-Some-clause-merges : goal.returns-in-Some-clause-merges
returns-in-Some-clause-merges g c =
    let sketch = c.in-Ok.sketch in
    lacking (g.P.SketchFiles.content c.args.parts.now) c.args.count (g.D.Desk.start c.args.desk.now) (g.D.Sink.talk c.args.desk.now) (g.D.Sink.talk c.open.new.desk)
    sketch c.in-Ok.ensures.found c.in-Ok-add_up.sum c.in-Some.why c.in-Ok-add_up.ensures.summed (sym (c.lacks_of.ensures sketch c.told_of-told.ensures) ∙ c.in-Some.is) c.open.ensures.talk

pub finish-sketch-requires : goal.finish-sketch-requires
finish-sketch-requires g c =
    let sketch = c.in-Ok.sketch in
    sum_sketch_of (g.P.SketchFiles.content c.args.parts.now) c.args.count (g.D.Desk.start c.args.desk.now) (g.D.Sink.talk c.args.desk.now) (g.D.Sink.talk c.open.new.desk)
    sketch c.in-Ok.ensures.found c.in-Ok-add_up.sum c.in-Ok-add_up.ensures.summed (sym (c.lacks_of.ensures sketch c.told_of-told.ensures) ∙ c.in_default.is)

pub returns-clause-merges : goal.returns-clause-merges
returns-clause-merges g c =
    let sketch = c.in-Ok.sketch in
    let mid = g.D.Sink.talk c.open.new.desk in
    let new = g.D.Sink.talk c.keep.new.desk in
    stored_new (g.P.SketchFiles.content c.args.parts.now) c.args.count (g.D.Desk.start c.args.desk.now) (g.D.Sink.talk c.args.desk.now) new
    sketch c.in-Ok.ensures.found mid c.in-Ok-add_up.sum c.keep.result c.in-Ok-add_up.ensures.summed (sym (c.lacks_of.ensures sketch c.told_of-told.ensures) ∙ c.in_default.is) c.open.ensures.talk
    (subst (λ (s : SketchValues). Closes mid new (spelled_file s) statuses.Wrote c.keep.result) c.finish-sketch.ensures c.keep.ensures.talk)

pub returns-clause-cause : goal.returns-clause-cause
returns-clause-cause g c =
    let before = counts 0 0 0 (g.P.SketchFiles.faults c.args.parts.now) 0 in
    let now = counts 0 0 0 (g.P.SketchFiles.faults c.add_up.new.parts) 0 in
    sketch_since before now (g.D.Sink.faults c.args.desk.now) (g.D.Sink.faults c.open.new.desk) (g.D.Sink.faults c.keep.new.desk) c.keep.result c.open.ensures.desk.later
    (c.keep.ensures.cause before now)
