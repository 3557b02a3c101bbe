-- The update that a skewed helper hears fits a frame.
use Rattle.std.proofs.Common.{IsTrue, refl}
use Rattle.sip_wire.specs.Spelling.{fits, has_room, all_hold}
use Rattle.sip_wire.specs.declared.version.Version.TheVariants.{Two}
use Rattle.sip_duel.specs.Skewing.{one_update}

pub one_update_fits : IsTrue (fits Two one_update)
unfolding fits has_room all_hold
one_update_fits = refl
