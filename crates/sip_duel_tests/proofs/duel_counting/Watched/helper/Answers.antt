use Rattle.std.proofs.Common.{refl}
use Rattle.sip_wire.specs.Spelling.{fits, has_room, all_hold}
use Rattle.sip_duel_tests.proofs.duel_counting.Watched.helper.Goals as goal

pub hear-requires : goal.hear-requires
unfolding fits has_room all_hold
hear-requires c = refl
