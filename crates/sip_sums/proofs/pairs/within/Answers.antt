-- Each pair of the spots with that of the interval.
use Rattle.std.proofs.Common.{ℕ, refl, ap, ◌∙◌, arith}
use Rattle.sip_sums.specs.Pairs.{Neighbours, neighbours_of, pairs_of, pair_in, summed, with_product}
use Rattle.sip_sums.specs.Polynomials.{coefficients_of}
use Rattle.sip_sums.proofs.ListPairs.{rises-earlier}
use Rattle.sip_sums.proofs.pairs.within.Goals as goal

pub loop-pair-init : goal.loop-pair-init
loop-pair-init g c = record { pairs = c.requires; sums = rw c.zero-sums.ensures refl }

pub pair_of-requires-clause-below : goal.pair_of-requires-clause-below
pair_of-requires-clause-below g c =
    let pairs = c.loop-pair.invariant.pairs in
    let rise = rw c.in-Some.ensures.pairs at pairs.3 in
    omega (arith, rise.1, pairs.2)

pub pair_of-requires-clause-fits : goal.pair_of-requires-clause-fits
pair_of-requires-clause-fits g c =
    let pairs = c.loop-pair.invariant.pairs in
    let rise = rw c.in-Some.ensures.pairs at pairs.3 in
    omega (arith, rise.1, pairs.1)

pub loop-pair-smaller : goal.loop-pair-smaller
loop-pair-smaller g c = c.in-Some.ensures.shorter

pub loop-pair-preserved : goal.loop-pair-preserved
loop-pair-preserved g c =
    let p : ℕ = g.F.Field.MODULUS in
    let other : Neighbours → Neighbours = (λ s. pair_in c.args.interval.now s.index) in
    let pairs = c.loop-pair.invariant.pairs in
    let rise = rw c.in-Some.ensures.pairs at pairs.3 in
    record {
      pairs = (pairs.0, pairs.1, pairs.2, rises-earlier 0 _ pairs.0 _ (omega arith) rise.2);
      sums = ap (λ d. summed p other d (pairs_of g.F.Field.number c.in-Some.behind.now))
          (c.with_weighed-sums.ensures ∙ ap (with_product p (coefficients_of g.F.Field.number c.loop-pair.sums) (neighbours_of g.F.Field.number c.in-Some.pair)) c.pair_of.ensures)
          ∙ (rw c.in-Some.ensures.pairs at c.loop-pair.invariant.sums);
    }

pub returns : goal.returns
returns g c = rw c.in_default.ensures at c.loop-pair.invariant.sums
