-- What reading a frame that is at hand answers.
use Rattle.std.specs.Prelude.{◌≡◌, ℕ, List, Result, Ok, Err}
use Rattle.sip_wire.specs.declared.kind.Place.{Place}
use Rattle.sip_wire.specs.declared.message.Message.{Message}
use Rattle.sip_wire.specs.declared.message.WireFault.{WireFault}
use Rattle.sip_wire.specs.declared.version.Version.{Version}
use Rattle.sip_wire.specs.Decoding.{Took}
use Rattle.sip_wire.specs.Reading.{read_frame}

-- the message whose spelling these bytes are, or the fault that they show; Closed says that the
-- frame isn't whole
abbrev pub Reads : Version → Place → List ℕ → Result Message WireFault → Type 0
Reads version place bytes (Ok m) = Took version place bytes m
Reads version place bytes (Err fault) = read_frame version place bytes ≡ Err fault
