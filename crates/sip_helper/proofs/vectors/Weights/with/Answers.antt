-- The update at hand is judged with the weights so far, and the others with the weights that it leaves.
use Rattle.std.proofs.Common.{◌+◌, drop, get_or, pos, sym, ◌∙◌}
use Rattle.std.proofs.lemmas.List.{at_drop_more}
use Rattle.sip_vector.specs.declared.update.Side.TheVariants.{First}
use Rattle.sip_vector.specs.declared.update.Update.{Update}
use Rattle.sip_helper.specs.inside.Legal.{legal_weights}
use Rattle.sip_helper.proofs.LegalUpdates.{judged}
use Rattle.sip_helper.proofs.vectors.Weights.with.Goals as goal

none : Update
none = record { side = First; item = 0; delta = pos 0 }

pub returns-in_err-weights : goal.returns-in_err-weights
unfolding none
returns-in_err-weights c =
    let us = c.args.updates.now in
    let i = c.loop-update.update-index in
    let w = c.loop-update.weights in
    let first = judged c.args.depth w (get_or us i none) (drop (i + 1) us) in
    c.from_residual.ensures
    ∙ sym (at_drop_more (legal_weights c.args.depth w) us i none c.loop-update-test.true ∙ first.illegal (sym c.with_one.ensures ∙ c.in_err-weights.was))
    ∙ c.loop-update.invariant.rest

pub loop-update-preserved : goal.loop-update-preserved
unfolding none
loop-update-preserved c =
    let us = c.args.updates.now in
    let i = c.loop-update.update-index in
    let w = c.loop-update.weights in
    let first = judged c.args.depth w (get_or us i none) (drop (i + 1) us) in
    let legal = first.legal c.in_ok-weights.weights (sym c.with_one.ensures ∙ c.in_ok-weights.was) in
    record {
      light = legal.1;
      rest = sym (at_drop_more (legal_weights c.args.depth w) us i none c.loop-update-test.true ∙ legal.0) ∙ c.loop-update.invariant.rest;
    }
