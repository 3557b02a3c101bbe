use Rattle.std.proofs.Common.{◌∙◌}
use Rattle.sip_moments.proofs.PowerSums.{entries-light, powers-are}
use Rattle.sip_moments.proofs.claims.claim_of.Goals as goal

pub sum_of_powers-requires-clause-light : goal.sum_of_powers-requires-clause-light
sum_of_powers-requires-clause-light c =
    entries-light c.args.degree c.requires.some c.args.vector.now.numbers c.in-Some.entries.now c.in-Some.ensures.exact c.args.vector.now.weight (rw c.weight.ensures.same at c.weight.ensures.light) c.requires.light

pub returns-in-Some-clause-moment : goal.returns-in-Some-clause-moment
returns-in-Some-clause-moment c =
    powers-are c.args.degree c.requires.some c.args.vector.now.numbers c.in-Some.entries.now c.in-Some.ensures.exact c.sum_of_powers.result c.sum_of_powers.ensures.sum c.sum_of_powers.ensures.fits

pub sum_of_powers-requires-2-clause-light : goal.sum_of_powers-requires-2-clause-light
sum_of_powers-requires-2-clause-light c =
    entries-light c.args.degree c.requires.some c.args.vector.now.numbers c.deref.result.now (c.deref.ensures.value ∙ c.in_ok-entries.ensures) c.args.vector.now.weight (rw c.weight.ensures.same at c.weight.ensures.light) c.requires.light

pub returns-clause-moment : goal.returns-clause-moment
returns-clause-moment c =
    powers-are c.args.degree c.requires.some c.args.vector.now.numbers c.deref.result.now (c.deref.ensures.value ∙ c.in_ok-entries.ensures) c.sum_of_powers-2.result c.sum_of_powers-2.ensures.sum c.sum_of_powers-2.ensures.fits
