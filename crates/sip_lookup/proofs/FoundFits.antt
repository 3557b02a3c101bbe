-- What is found has a spelling.
use Rattle.std.proofs.Common.{ℕ, ◌^◌, ◌<◌, arith, refl}
use Rattle.std.specs.Prelude.{IsTrue}
use Rattle.std.proofs.lemmas.Bool.Decides.{nat_tests}
use Rattle.sip_wire.specs.declared.message.Message.TheVariants as messages
use Rattle.sip_wire.specs.declared.version.Version.{Version}
use Rattle.sip_wire.specs.Spelling.{all_hold, fits, has_room}

pub some_fits : (version : Version) (j : ℕ) → j < 2 ^ 64 → IsTrue (fits version (messages.Found 1 j))
unfolding fits has_room all_hold
some_fits version j below = grind (arith, nat_tests)

pub none_fits : (version : Version) → IsTrue (fits version (messages.Found 0 0))
unfolding fits has_room all_hold
none_fits version = refl
