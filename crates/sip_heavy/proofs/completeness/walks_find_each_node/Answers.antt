use Rattle.sip_heavy.proofs.ShownWalks.{all_found, each_found, none_found}
use Rattle.sip_heavy.specs.Honest.{its_nodes}
use Rattle.sip_heavy.proofs.completeness.walks_find_each_node.Goals as goal

pub returns-clause-all : goal.returns-clause-all
returns-clause-all c = all_found

pub returns-clause-next : goal.returns-clause-next
returns-clause-next c = each_found

pub returns-clause-last : goal.returns-clause-last
returns-clause-last c = λ s from e. none_found from (its_nodes s) e
