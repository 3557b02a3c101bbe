use Rattle.std.proofs.Common.{◌≡◌, ◌^◌, length, sym, ap, ◌∙◌}
use Rattle.std.proofs.lemmas.Result.{IfOk-weaker}
use Rattle.sip_sums.proofs.VectorClaims.{entries-light, entries-rise, products-of}
use Rattle.sip_sums.proofs.claims.claim_of_products.Goals as goal

pub claim_with-requires-clause-light : goal.claim_with-requires-clause-light
claim_with-requires-clause-light c = entries-light c.args.first.now.numbers c.in-Some.entries.now c.in-Some.ensures.exact c.weight.result c.weight.ensures.light c.weight.ensures.most

pub claim_with-requires-clause-order : goal.claim_with-requires-clause-order
claim_with-requires-clause-order c = entries-rise c.args.first.now.numbers c.in-Some.entries.now c.in-Some.ensures.exact

pub returns-in-Some-clause-total : goal.returns-in-Some-clause-total
returns-in-Some-clause-total c =
    let same = sym c.requires in
    let long : length c.args.second.now.numbers ≡ length c.args.first.now.numbers =
    c.depth-2.ensures.numbers ∙ ap (λ d. 2 ^ d) (c.depth-2.ensures.same ∙ same ∙ sym c.depth.ensures.same) ∙ sym c.depth.ensures.numbers in
    IfOk-weaker c.claim_with.result _ _ (λ claim is. products-of c.args.first.now.numbers c.in-Some.entries.now c.in-Some.ensures.exact c.args.second.now.numbers claim long is) c.claim_with.ensures.total

pub claim_with-requires-2-clause-light : goal.claim_with-requires-2-clause-light
claim_with-requires-2-clause-light c =
    entries-light c.args.first.now.numbers c.deref.result.now (c.deref.ensures.value ∙ c.in_ok-entries.ensures) c.weight.result c.weight.ensures.light c.weight.ensures.most

pub claim_with-requires-2-clause-order : goal.claim_with-requires-2-clause-order
claim_with-requires-2-clause-order c = entries-rise c.args.first.now.numbers c.deref.result.now (c.deref.ensures.value ∙ c.in_ok-entries.ensures)

pub returns-clause-total : goal.returns-clause-total
returns-clause-total c =
    let same = sym c.requires in
    let long : length c.args.second.now.numbers ≡ length c.args.first.now.numbers =
    c.depth-2.ensures.numbers ∙ ap (λ d. 2 ^ d) (c.depth-2.ensures.same ∙ same ∙ sym c.depth.ensures.same) ∙ sym c.depth.ensures.numbers in
    IfOk-weaker c.claim_with-2.result _ _
    (λ claim is. products-of c.args.first.now.numbers c.deref.result.now (c.deref.ensures.value ∙ c.in_ok-entries.ensures) c.args.second.now.numbers claim long is) c.claim_with-2.ensures.total
