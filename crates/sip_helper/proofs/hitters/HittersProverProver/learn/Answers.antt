-- The prover goes one level up.
use Rattle.std.proofs.Common.{arith}
use Rattle.sip_helper.proofs.HitterReplies.{one_level, tall}
use Rattle.sip_helper.proofs.hitters.HittersProverProver.learn.Goals as goal

pub learn-requires : goal.learn-requires
learn-requires c =
    let less = c.requires.stands.3 in
    tall c.requires.stands.0 c.requires.stands.1 c.requires.stands.2 c.args.self.now c.requires.stands.4 (omega (arith, less))

pub returns-clause-learnt : goal.returns-clause-learnt
returns-clause-learnt c = λ depth v revealed less has.
    one_level depth v revealed c.args.self.now c.learn.new.self c.args.challenge c.of.result.value has c.requires.element c.of.ensures c.learn.ensures.learnt c.learn.ensures.half less
