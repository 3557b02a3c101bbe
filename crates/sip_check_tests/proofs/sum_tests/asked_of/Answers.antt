use Rattle.std.proofs.Common.{refl}
use Rattle.sip_wire.specs.Spelling.{fits, has_room, all_hold}
use Rattle.sip_check_tests.proofs.sum_tests.asked_of.Goals as goal

pub ask-said-requires-clause-fits : goal.ask-said-requires-clause-fits
unfolding fits has_room all_hold
ask-said-requires-clause-fits c = refl
