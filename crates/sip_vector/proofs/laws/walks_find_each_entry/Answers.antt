use Rattle.sip_vector.proofs.Walks.{nonzero_within-next, nonzero_within-last}
use Rattle.sip_vector.proofs.laws.walks_find_each_entry.Goals as goal

pub returns-clause-next : goal.returns-clause-next
returns-clause-next c = nonzero_within-next

pub returns-clause-last : goal.returns-clause-last
returns-clause-last c = nonzero_within-last
