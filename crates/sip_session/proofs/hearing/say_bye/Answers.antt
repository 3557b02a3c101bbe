use Rattle.std.proofs.Common.{refl}
use Rattle.sip_wire.specs.Spelling.{fits, has_room, all_hold}
use Rattle.sip_session.proofs.hearing.say_bye.Goals as goal

pub say_behind-requires-clause-fits : goal.say_behind-requires-clause-fits
unfolding fits has_room all_hold
say_behind-requires-clause-fits g c = refl
