-- A Bye has a spelling in each version.
use Rattle.std.proofs.Common.{refl}
use Rattle.sip_wire.specs.Spelling.{fits, has_room, all_hold}
use Rattle.sip_runs.proofs.to_ask.ToAsk.say_farewell.Goals as goal

pub encode-requires : goal.encode-requires
unfolding fits has_room all_hold
encode-requires g c = refl
