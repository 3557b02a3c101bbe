-- One part more.
use Rattle.std.proofs.Common.{◌+◌, [], ◌∷◌, ◌++◌, length, sym, subst, ◌∙◌, arith, rules, refl, length-append}
use Rattle.std.proofs.lemmas.Result.{err_from_is_err_and}
use Rattle.sip_sketch.specs.Merging.{IsPart, Joins}
use Rattle.sip_sketch.specs.Risen.{HasRisen}
use Rattle.sip_sketch.specs.inside.Causes.{with_parts}
use Rattle.sip_sketch.specs.declared.status.SketchStatus.{SketchStatus}
use Rattle.sip_sketch.proofs.Causes.{parts_since}
use Rattle.sip_sketch.proofs.Merged.{joins_more, parts_more}
use Rattle.sip_sketch.proofs.merging.add_parts.Goals as goal

pub returns-in_err-part-clause-cause : goal.returns-in_err-part-clause-cause
returns-in_err-part-clause-cause g c =
    let (status, is, same) = err_from_is_err_and c.from_residual.result c.from_residual.ensures.1 in
    rw is (λ before now.
    parts_since before now (g.P.SketchFiles.faults c.args.parts.now) (g.P.SketchFiles.faults c.loop-number.parts) (g.P.SketchFiles.faults c.load_part.new.parts) status c.loop-number.invariant.parts.later
    (subst (λ (x : SketchStatus). HasRisen (with_parts before (g.P.SketchFiles.faults c.loop-number.parts)) (with_parts now (g.P.SketchFiles.faults c.load_part.new.parts)) x) (sym same) (c.in_err-part.ensures.cause before now)))

pub loop-number-preserved : goal.loop-number-preserved
loop-number-preserved g c =
    let so = c.loop-number.invariant in
    let part = c.in_ok-part.part in
    let (more, many, joined) = so.joined in
    let here : IsPart (g.P.SketchFiles.content c.args.parts.now) (2 + length more) part =
    subst (λ n. IsPart (g.P.SketchFiles.content c.args.parts.now) n part) (omega (arith, many)) (rw so.content at c.in_ok-part.ensures.found) in
    record {
      all = refl;
      joined = (
        more ++ part ∷ [],
        omega (arith, many, length-append more (part ∷ [])),
        record {
          loaded = parts_more (g.P.SketchFiles.content c.args.parts.now) 2 more part joined.loaded here;
          joins = subst (Joins c.args.sum.now (more ++ part ∷ [])) (sym c.in_default.ensures.added) (joins_more c.args.sum.now more c.loop-number.sum part joined.joins c.in_default.ensures.free);
        },
      );
      content = c.load_part.ensures.content ∙ so.content;
      parts = search rules;
    }
