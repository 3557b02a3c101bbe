-- The prover learns the challenge.
use Rattle.std.proofs.Common.{refl, arith}
use Rattle.sip_above.proofs.OpenLarges.{at_hand, learnt_has, stands_higher, tall_at_hand}
use Rattle.sip_above.proofs.under_way.LargeUnderWay.reveal.Goals as goal

pub learn-requires : goal.learn-requires
learn-requires c = tall_at_hand c.args.depth c.requires.stands.0 c.args.self.now c.in-Ok.prover c.in-Ok.is c.requires.stands.1

pub returns-in-Ok-clause-stands : goal.returns-in-Ok-clause-stands
returns-in-Ok-clause-stands c = λ side can.
    let less = c.if-len-depth.false in
    stands_higher c.args.depth side c.args.self.now _ _ c.args.challenge can c.requires.element (omega arith) refl refl c.push.ensures.items refl
    (learnt_has c.args.depth side c.args.self.now.large c.args.self.now.revealed.items c.in-Ok.prover c.learn.new.self c.args.challenge _
    (at_hand c.args.depth side c.args.self.now c.in-Ok.prover c.in-Ok.is can) c.requires.element c.of.ensures c.learn.ensures.learnt c.learn.ensures.half (omega arith))
