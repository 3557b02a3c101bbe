use Rattle.std.proofs.Common.{◌∙◌}
use Rattle.sip_sums.proofs.VectorClaims.{entries-light, range-of}
use Rattle.sip_sums.proofs.claims.claim_within.Goals as goal

pub sum_within-requires : goal.sum_within-requires
sum_within-requires c = entries-light c.args.vector.now.numbers c.in-Some.entries.now c.in-Some.ensures.exact c.weight.result c.weight.ensures.light c.weight.ensures.most

pub returns-in-Some-clause-total : goal.returns-in-Some-clause-total
returns-in-Some-clause-total c =
    range-of c.args.vector.now.numbers c.in-Some.entries.now c.in-Some.ensures.exact c.args.lo c.args.hi c.args.vector.now.depth c.depth.result c.sum_within.result
    c.sum_within.ensures.sum c.sum_within.ensures.fits c.depth.ensures.numbers c.depth.ensures.same

pub sum_within-requires-2 : goal.sum_within-requires-2
sum_within-requires-2 c =
    entries-light c.args.vector.now.numbers c.deref.result.now (c.deref.ensures.value ∙ c.in_ok-entries.ensures) c.weight.result c.weight.ensures.light c.weight.ensures.most

pub returns-clause-total : goal.returns-clause-total
returns-clause-total c =
    range-of c.args.vector.now.numbers c.deref.result.now (c.deref.ensures.value ∙ c.in_ok-entries.ensures) c.args.lo c.args.hi c.args.vector.now.depth c.depth.result c.sum_within-2.result
    c.sum_within-2.ensures.sum c.sum_within-2.ensures.fits c.depth.ensures.numbers c.depth.ensures.same
