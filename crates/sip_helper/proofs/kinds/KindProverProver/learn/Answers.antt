-- The prover of the kind learns the challenge.
use Rattle.std.proofs.Common.{subst}
use Rattle.sip_helper.specs.Kinds.{HasLearnt}
use Rattle.sip_helper.proofs.kinds.KindProverProver.learn.Goals as goal

pub returns-in-Sub-clause-learnt : goal.returns-in-Sub-clause-learnt
returns-in-Sub-clause-learnt c = λ depth v revealed less has.
    c.learn.ensures.learnt depth v revealed less (subst (HasLearnt depth v revealed) c.in-Sub.is has)

pub returns-in-Sum-clause-learnt : goal.returns-in-Sum-clause-learnt
returns-in-Sum-clause-learnt c = λ depth v revealed less has.
    c.learn-in-Sum.ensures.learnt depth v revealed less (subst (HasLearnt depth v revealed) c.in-Sum.is has)

pub returns-in-Heavy-clause-learnt : goal.returns-in-Heavy-clause-learnt
returns-in-Heavy-clause-learnt c = λ depth v revealed less has.
    c.learn-in-Heavy.ensures.learnt depth v revealed less (subst (HasLearnt depth v revealed) c.in-Heavy.is has)
