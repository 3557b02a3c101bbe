-- Each update comes behind those before it, or is the first that does not.
use Rattle.std.proofs.Common.{◌++◌, ◌∷◌, [], List, append_assoc, drop, ◌+◌, take, sym, ap, subst, ◌∙◌}
use Rattle.std.proofs.lemmas.List.{take_more}
use Rattle.std.proofs.lemmas.Result.{err_from_is_err_and}
use Rattle.sip_vector.specs.declared.update.Update.{Update}
use Rattle.sip_runs.specs.declared.following.Following.{Following}
use Rattle.sip_runs.specs.Runs.{IsFollowed}
use Rattle.sip_runs.proofs.Among.{split_one}
use Rattle.sip_runs.proofs.following.Following.feed.Goals as goal

pub returns-in_err-take-clause-feeds : goal.returns-in_err-take-clause-feeds
returns-in_err-take-clause-feeds c = λ p stream events is.
    let us = c.args.updates.now in
    let i = c.loop-index.index in
    let at = c.loop-index.invariant.came p stream events is in
    let takes = c.in_err-take.ensures.takes p (stream ++ take i us) events at in
    let e = err_from_is_err_and c.from_residual.result c.from_residual.ensures.1 in
    rw (e.1, e.2) (
      take i us,
      _,
      drop (i + 1) us,
      split_one us i _ c.loop-index-test.true,
      subst (λ (f : Following). IsFollowed p (stream ++ take i us) events f) (sym takes.0) at,
      takes.1,
      takes.2,
    )

pub loop-index-preserved : goal.loop-index-preserved
loop-index-preserved c =
    let us = c.args.updates.now in
    let i = c.loop-index.index in
    record {
      begun = (let (p, stream, events, is) = c.loop-index.invariant.begun in (p, _, events, c.in_ok-take.ensures.takes p stream events is));
      came = λ p stream events is. subst (λ (l : List Update). IsFollowed p l events c.take.new.self)
          (append_assoc stream (take i us) (_ ∷ []) ∙ ap (λ (l : List Update). stream ++ l) (sym (take_more us i _ c.loop-index-test.true)))
          (c.in_ok-take.ensures.takes p (stream ++ take i us) events (c.loop-index.invariant.came p stream events is));
    }
