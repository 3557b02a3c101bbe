use Rattle.sip_wire.proofs.Wider.{fits_two}
use Rattle.sip_wire.proofs.laws.version_2_has_room_for_each.Goals as goal

pub returns : goal.returns
returns c = fits_two
