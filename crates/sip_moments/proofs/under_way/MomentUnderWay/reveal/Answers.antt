-- The prover learns the challenge.
use Rattle.std.proofs.Common.{refl, arith}
use Rattle.sip_moments.proofs.OpenMoments.{stands_higher, tall_at_hand}
use Rattle.sip_moments.proofs.under_way.MomentUnderWay.reveal.Goals as goal

pub learn-requires : goal.learn-requires
learn-requires c =
    tall_at_hand c.requires.stands.0 c.args.self.now c.in-Some.prover c.in-Some.is
    c.requires.stands.2

pub returns-in-Some-clause-stands : goal.returns-in-Some-clause-stands
returns-in-Some-clause-stands c = λ helper whole can.
    stands_higher helper c.args.depth c.args.self.now _ c.in-Some.prover c.learn.new.self
    c.args.challenge _ can whole c.in-Some.is refl c.requires.element c.of.ensures
    c.learn.ensures.learnt c.learn.ensures.half (omega arith) refl refl c.push.ensures.items refl
