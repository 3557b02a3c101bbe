-- The prover goes one level up.
use Rattle.std.proofs.Common.{length, arith}
use Rattle.sip_helper.proofs.SubVectors.{one_higher, tall}
use Rattle.sip_helper.proofs.sub_vector.SubVectorProverProver.learn.Goals as goal

pub learn-requires : goal.learn-requires
learn-requires c =
    let less = c.requires.stands.3 in
    tall c.requires.stands.0 (length c.requires.stands.2) c.args.self.now.prover.level c.requires.stands.4.height (omega (arith, less))

pub returns-clause-learnt : goal.returns-clause-learnt
returns-clause-learnt c = λ depth v revealed less has.
    one_higher depth v revealed c.args.self.now c.learn.new.self c.args.challenge c.of.result.value has c.requires.element c.of.ensures c.learn.ensures.learnt c.learn.ensures.half less
