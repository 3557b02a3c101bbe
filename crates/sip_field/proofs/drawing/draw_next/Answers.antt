-- Each answer is one step of the list after what the loop kept.
use Rattle.std.proofs.Common.{◌+◌, ◌-◌, ◌∙◌, sym, ap, arith, Some, append-nil}
use Rattle.std.proofs.lemmas.Result.{err_from_is_err_and}
use Rattle.std.proofs.lemmas.List.{map-append}
use Rattle.sip_field.specs.Draw.{joined}
use Rattle.sip_field.proofs.DrawLists.{draw_list_more, draw_list_none, draw_list_spent, joined_one}
use Rattle.sip_field.proofs.DrawLists.{left_more, left_none, left_spent}
use Rattle.sip_field.proofs.drawing.draw_next.Goals as goal

pub returns-in_err-draw_one-clause-drawn : goal.returns-in_err-draw_one-clause-drawn
returns-in_err-draw_one-clause-drawn g c =
    let p = err_from_is_err_and c.from_residual.result c.from_residual.ensures.1 in
    rw p.1 (sym (c.loop.invariant.whole
    ∙ ap (joined (Some _)) (draw_list_spent _ (c.args.count - (c.loop.counter + 1)) _ _ (omega arith) c.in_err-draw_one.ensures.exact)))

pub returns-in_err-draw_one-clause-left : goal.returns-in_err-draw_one-clause-left
returns-in_err-draw_one-clause-left g c = sym (c.loop.invariant.left
    ∙ left_spent _ (c.args.count - (c.loop.counter + 1)) _ _ (omega arith) c.in_err-draw_one.ensures.exact)

pub loop-preserved : goal.loop-preserved
loop-preserved g c = record {
  length = omega (arith, c.push.ensures.len);
  whole = simp (c.push.ensures.items, map-append) (c.loop.invariant.whole
      ∙ ap (joined (Some _)) (draw_list_more _ (c.args.count - (c.loop.counter + 1)) _ _ _ (omega arith) c.in_ok-draw_one.ensures.exact)
      ∙ joined_one _ _ _);
  left = c.loop.invariant.left
      ∙ left_more _ (c.args.count - (c.loop.counter + 1)) _ _ _ (omega arith) c.in_ok-draw_one.ensures.exact;
}

pub returns-clause-drawn : goal.returns-clause-drawn
returns-clause-drawn g c = sym (c.loop.invariant.whole ∙ ap (joined (Some _)) (draw_list_none _ _ (omega arith)) ∙ ap Some (append-nil _))

pub returns-clause-left : goal.returns-clause-left
returns-clause-left g c = sym (c.loop.invariant.left ∙ left_none _ _ (omega arith))
