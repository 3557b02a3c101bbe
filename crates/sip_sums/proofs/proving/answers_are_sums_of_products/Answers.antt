use Rattle.sip_sums.proofs.Totals.{answer-is}
use Rattle.sip_sums.proofs.proving.answers_are_sums_of_products.Goals as goal

pub returns : goal.returns
returns c = answer-is
