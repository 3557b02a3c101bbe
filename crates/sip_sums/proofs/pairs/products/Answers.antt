-- The two lists beside each other, pair by pair.
use Rattle.std.proofs.Common.{refl, arith}
use Rattle.sip_sums.specs.Polynomials.{coefficients_of}
use Rattle.sip_sums.specs.declared.polynomial.Poly.{Poly}
use Rattle.sip_sums.proofs.PairSums.{IsReduced}
use Rattle.sip_sums.proofs.PairWalks.{leads-less, leads-more, leads-same, leads-none, leads-no_others}
use Rattle.sip_sums.proofs.pairs.products.Given as given
use Rattle.sip_sums.proofs.pairs.products.Goals as goal

-- the coefficients of a polynomial are residues
reduced : (g : given.Over) (poly : Poly g.row.F.Denot) → IsReduced g.F.Field.MODULUS (coefficients_of g.F.Field.number poly)
reduced g poly = record { c0 = g.met.F.Field.below poly.c0; c1 = g.met.F.Field.below poly.c1; c2 = g.met.F.Field.below poly.c2 }

pub loop-one-init : goal.loop-one-init
loop-one-init g c n rise rise_too = (rise, rise_too, rw c.zero-sums.ensures refl)

pub loop-one-smaller-then-one-other : goal.loop-one-smaller-then-one-other
loop-one-smaller-then-one-other g c = omega (arith, c.in-Some-Some.ensures.shorter)

pub loop-one-preserved-then-one-other : goal.loop-one-preserved-then-one-other
loop-one-preserved-then-one-other g c n rise rise_too =
    let w = c.in-Some-Some in
    let leads = rw (w.ensures.pairs, w.ensures'.pairs) at (c.loop-one.invariant n rise rise_too) in
    rw w.ensures'.pairs (leads-less g.F.Field.MODULUS n _ _ _ _ _ _ leads (reduced g c.loop-one.sums) c.if-one-other.true)

pub loop-one-smaller-then-other-one : goal.loop-one-smaller-then-other-one
loop-one-smaller-then-other-one g c = omega (arith, c.in-Some-Some.ensures'.shorter)

pub loop-one-preserved-then-other-one : goal.loop-one-preserved-then-other-one
loop-one-preserved-then-other-one g c n rise rise_too =
    let w = c.in-Some-Some in
    let leads = rw (w.ensures.pairs, w.ensures'.pairs) at (c.loop-one.invariant n rise rise_too) in
    rw w.ensures.pairs (leads-more g.F.Field.MODULUS n _ _ _ _ _ _ leads c.if-other-one.true)

pub loop-one-smaller : goal.loop-one-smaller
loop-one-smaller g c = omega (arith, c.in-Some-Some.ensures.shorter, c.in-Some-Some.ensures'.shorter)

pub loop-one-preserved : goal.loop-one-preserved
loop-one-preserved g c n rise rise_too =
    let w = c.in-Some-Some in
    let leads = rw (w.ensures.pairs, w.ensures'.pairs) at (c.loop-one.invariant n rise rise_too) in
    leads-same g.F.Field.MODULUS n _ _ _ _ _ _ leads _ c.with_product-sums.ensures (omega (arith, c.if-one-other.false, c.if-other-one.false))

pub returns-in_default : goal.returns-in_default
returns-in_default g c n rise rise_too =
    let leads = rw c.in_default.ensures' at (c.loop-one.invariant n rise rise_too) in
    leads-no_others g.F.Field.MODULUS n _ _ _ (reduced g c.loop-one.sums) leads

pub returns-in_default-2 : goal.returns-in_default-2
returns-in_default-2 g c n rise rise_too =
    let leads = rw c.in_default.ensures at (c.loop-one.invariant n rise rise_too) in
    leads-none g.F.Field.MODULUS n _ _ _ leads
