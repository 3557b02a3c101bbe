use Rattle.std.proofs.Common.{◌∙◌}
use Rattle.sip_sums.proofs.VectorClaims.{entries-light, entries-rise}
use Rattle.sip_sums.proofs.claims.claim_with.Goals as goal

pub sum_of_products-requires-clause-second : goal.sum_of_products-requires-clause-second
sum_of_products-requires-clause-second c = entries-light c.args.second.now.numbers c.in-Some.others.now c.in-Some.ensures.exact c.weight.result c.weight.ensures.light c.weight.ensures.most

pub sum_of_products-requires-clause-order_too : goal.sum_of_products-requires-clause-order_too
sum_of_products-requires-clause-order_too c = entries-rise c.args.second.now.numbers c.in-Some.others.now c.in-Some.ensures.exact

pub sum_of_products-requires-2-clause-second : goal.sum_of_products-requires-2-clause-second
sum_of_products-requires-2-clause-second c =
    entries-light c.args.second.now.numbers c.deref.result.now (c.deref.ensures.value ∙ c.in_ok-others.ensures) c.weight.result c.weight.ensures.light c.weight.ensures.most

pub sum_of_products-requires-2-clause-order_too : goal.sum_of_products-requires-2-clause-order_too
sum_of_products-requires-2-clause-order_too c = entries-rise c.args.second.now.numbers c.deref.result.now (c.deref.ensures.value ∙ c.in_ok-others.ensures)
