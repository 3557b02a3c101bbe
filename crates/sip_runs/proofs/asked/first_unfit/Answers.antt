-- A question that can be asked is one more of those before the first that can't.
use Rattle.std.proofs.Common.{All, take, take_all, sym, subst, arith}
use Rattle.std.proofs.lemmas.List.{get_or_default, take_more}
use Rattle.std.proofs.lemmas.List.Elements.{All-push}
use Rattle.sip_questions.specs.Promises.{CanPose}
use Rattle.sip_questions.specs.declared.question.Question.{Question}
use Rattle.sip_runs.proofs.asked.first_unfit.Goals as goal

pub loop-index-preserved : goal.loop-index-preserved
loop-index-preserved c =
    let Can : Question → Type 0 = CanPose c.args.version c.args.depth in
    let here = c.can_pose.ensures.0 c.if-not-can_pose.false in
    subst (All Can) (sym (take_more c.args.questions.now c.loop-index.index _ c.loop-index-test.true))
    (All-push Can (take c.loop-index.index c.args.questions.now) _ c.loop-index.invariant here)

pub returns-then-not-can_pose-clause-unfit : goal.returns-then-not-can_pose-clause-unfit
returns-then-not-can_pose-clause-unfit c = record {
  index = c.loop-index.index;
  number_is = omega arith;
  inside = c.loop-index-test.true;
  before = c.loop-index.invariant;
  cannot = λ d can.
      let Can : Question → Type 0 = CanPose c.args.version c.args.depth in
      let yes = c.can_pose.ensures.1 (subst Can (get_or_default c.args.questions.now c.loop-index.index d _ c.loop-index-test.true) can) in
      let no = c.if-not-can_pose.true in absurd cc;
}

pub returns-clause-all : goal.returns-clause-all
returns-clause-all c =
    subst (All (CanPose c.args.version c.args.depth)) (take_all c.loop-index.index c.args.questions.now (omega arith)) c.loop-index.invariant
