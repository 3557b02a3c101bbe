use Rattle.std.proofs.Common.{◌∙◌}
use Rattle.sip_sums.proofs.VectorClaims.{entries-light, squares-of}
use Rattle.sip_sums.proofs.claims.claim_of_squares.Goals as goal

pub sum_of_squares-requires : goal.sum_of_squares-requires
sum_of_squares-requires c = entries-light c.args.vector.now.numbers c.in-Some.entries.now c.in-Some.ensures.exact c.weight.result c.weight.ensures.light c.weight.ensures.most

pub returns-in-Some-clause-total : goal.returns-in-Some-clause-total
returns-in-Some-clause-total c = squares-of c.args.vector.now.numbers c.in-Some.entries.now c.in-Some.ensures.exact c.sum_of_squares.result c.sum_of_squares.ensures.sum c.sum_of_squares.ensures.fits

pub sum_of_squares-requires-2 : goal.sum_of_squares-requires-2
sum_of_squares-requires-2 c =
    entries-light c.args.vector.now.numbers c.deref.result.now (c.deref.ensures.value ∙ c.in_ok-entries.ensures) c.weight.result c.weight.ensures.light c.weight.ensures.most

pub returns-clause-total : goal.returns-clause-total
returns-clause-total c =
    squares-of c.args.vector.now.numbers c.deref.result.now (c.deref.ensures.value ∙ c.in_ok-entries.ensures) c.sum_of_squares-2.result c.sum_of_squares-2.ensures.sum c.sum_of_squares-2.ensures.fits
