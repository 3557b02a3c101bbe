use Rattle.sip_vector.proofs.Sides.{side_vector-nil, side_vector-push, fold-with_update, total-is}
use Rattle.sip_vector.proofs.laws.vectors_add_up.Goals as goal

pub returns-clause-nothing : goal.returns-clause-nothing
returns-clause-nothing c = side_vector-nil

pub returns-clause-update : goal.returns-clause-update
returns-clause-update c = side_vector-push

pub returns-clause-whole : goal.returns-clause-whole
returns-clause-whole c = fold-with_update

pub returns-clause-total : goal.returns-clause-total
returns-clause-total c = total-is
