-- The prover learns the challenge.
use Rattle.std.proofs.Common.{refl, arith}
use Rattle.sip_helper.proofs.Standing.{at_hand, stands_higher}
use Rattle.sip_helper.proofs.asked.QueryUnderWay.reveal.Goals as goal

pub learn-requires-clause-stands : goal.learn-requires-clause-stands
learn-requires-clause-stands c =
    let hand = at_hand c.args.depth c.requires.stands.0 c.args.self.now c.in-Honest.prover c.in-Honest.is c.requires.stands.1 in
    (c.args.depth, hand.0, c.args.self.now.revealed.items, omega arith, hand.1)

pub returns-in-Honest-clause-stands : goal.returns-in-Honest-clause-stands
returns-in-Honest-clause-stands c = λ vectors stands.
    stands_higher c.args.depth vectors c.args.self.now _ c.in-Honest.prover c.learn.new.self c.args.challenge stands c.in-Honest.is refl c.push.ensures.items c.learn.ensures.query
    (λ v. c.learn.ensures.learnt c.args.depth v c.args.self.now.revealed.items (omega arith)) (omega arith)
