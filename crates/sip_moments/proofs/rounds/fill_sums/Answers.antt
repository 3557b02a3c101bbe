use Rattle.std.proofs.Common.{ℕ, ◌∙◌, arith}
use Rattle.sip_sums.specs.Pairs.{neighbours_of, pairs_of}
use Rattle.sip_moments.specs.Powers.{mixed}
use Rattle.sip_moments.proofs.MixedSums.{sums-last, sums-next}
use Rattle.sip_moments.proofs.Places.{at, below}
use Rattle.sip_moments.proofs.rounds.fill_sums.Goals as goal

pub loop-pair-preserved : goal.loop-pair-preserved
loop-pair-preserved g c =
    let number = g.F.Field.number in
    record {
      long = c.add_pair.ensures.same ∙ c.loop-pair.invariant.long;
      sums = λ j low.
          sums-next g.F.Field.MODULUS (at number c.loop-pair.sums j) _ _ (mixed c.args.degree j) (neighbours_of number c.in-Some.pair) (pairs_of number c.in-Some.behind.now)
          (rw c.in-Some.ensures.pairs at (c.loop-pair.invariant.sums j low)) (c.add_pair.ensures.sums j low);
    }

pub returns-clause-sums : goal.returns-clause-sums
returns-clause-sums g c j low =
    let number = g.F.Field.number in
    let p : ℕ = g.F.Field.MODULUS in
    sums-last p (at number c.loop-pair.sums j) _ (mixed c.args.degree j) (pairs_of number c.loop-pair.rest.now) c.in_default.ensures
    (below number p (omega (arith, g.met.F.Field.at_least)) g.met.F.Field.below c.loop-pair.sums j) (c.loop-pair.invariant.sums j low)
