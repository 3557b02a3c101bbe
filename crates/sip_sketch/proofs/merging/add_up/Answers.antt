-- The first part, and those behind it.
use Rattle.std.proofs.Common.{[], sym, subst, inl, inr, refl}
use Rattle.std.proofs.lemmas.Result.{err_from_is_err_and}
use Rattle.sip_sketch.specs.Merging.{in_place}
use Rattle.sip_sketch.specs.Risen.{HasRisen}
use Rattle.sip_sketch.specs.Sketches.{SketchValues}
use Rattle.sip_sketch.specs.declared.status.SketchStatus.{SketchStatus}
use Rattle.sip_sketch.specs.inside.Causes.{with_parts}
use Rattle.sip_sketch.specs.inside.Merging.{AreJoined, HaltsWith, StopsWith}
use Rattle.sip_sketch.proofs.Causes.{parts_since}
use Rattle.sip_sketch.proofs.Merged.{first_next, halted, summed}
use Rattle.sip_sketch.proofs.merging.add_up.Goals as goal

pub returns-in_err-first-clause-why : goal.returns-in_err-first-clause-why
returns-in_err-first-clause-why g c =
    let files = g.P.SketchFiles.content c.args.parts.now in
    let (status, is, same) = err_from_is_err_and c.from_residual.result c.from_residual.ensures.1 in
    rw is (subst (HaltsWith files c.args.count c.args.sketch) (sym same) (1, [], first_next files c.args.count c.args.sketch c.requires.least, inl c.in_err-first.ensures.why))

pub returns-in-Err-clause-why : goal.returns-in-Err-clause-why
returns-in-Err-clause-why g c = (
  1,
  [],
  first_next (g.P.SketchFiles.content c.args.parts.now) c.args.count c.args.sketch c.requires.least,
  inr (c.in_ok-first.first, c.in-Err.why, c.in_ok-first.ensures.found, c.in-Err.ensures.why, refl),
)

pub returns-in_err-add_parts-clause-why : goal.returns-in_err-add_parts-clause-why
returns-in_err-add_parts-clause-why g c =
    let files = g.P.SketchFiles.content c.args.parts.now in
    let placed = in_place c.args.sketch c.in_ok-first.first in
    let (status, is, same) = err_from_is_err_and c.from_residual-in_err-add_parts.result c.from_residual-in_err-add_parts.ensures.1 in
    let stops : StopsWith files c.args.count placed c.in_err-add_parts.field-0.0 =
    subst (λ (s : SketchValues). StopsWith files c.args.count s c.in_err-add_parts.field-0.0) c.in-Ok.ensures.sum (rw c.load_part.ensures.content at c.in_err-add_parts.ensures.why) in
    rw is (halted files c.args.count c.args.sketch c.in_ok-first.first c.in_ok-first.ensures.found c.in-Ok.ensures.free status (subst (StopsWith files c.args.count placed) (sym same) stops))

pub returns-in_err-add_parts-clause-cause : goal.returns-in_err-add_parts-clause-cause
returns-in_err-add_parts-clause-cause g c =
    let a = g.P.SketchFiles.faults c.args.parts.now in
    let b = g.P.SketchFiles.faults c.load_part.new.parts in
    let d = g.P.SketchFiles.faults c.add_parts.new.parts in
    let (status, is, same) = err_from_is_err_and c.from_residual-in_err-add_parts.result c.from_residual-in_err-add_parts.ensures.1 in
    rw is (λ before now.
    parts_since before now a b d status c.load_part.ensures.parts.later
    (subst (λ (x : SketchStatus). HasRisen (with_parts before b) (with_parts now d) x) (sym same) (c.in_err-add_parts.ensures.cause before now)))

pub returns-clause-summed : goal.returns-clause-summed
returns-clause-summed g c =
    let files = g.P.SketchFiles.content c.args.parts.now in
    let (more, many, behind) = c.in_ok-add_parts.ensures.joined in
    let joined = subst (λ (s : SketchValues). AreJoined files 2 s more c.add_parts.new.sum) c.in-Ok.ensures.sum (rw c.load_part.ensures.content at behind) in
    summed files c.args.count c.args.sketch c.in_ok-first.first c.in_ok-first.ensures.found c.in-Ok.ensures.free more c.add_parts.new.sum many joined
