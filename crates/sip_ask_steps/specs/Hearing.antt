-- What the bytes of a frame say where what the other end holds is awaited.
use Rattle.std.specs.Prelude.{◌≡◌, ℕ, ◌<◌, List, length, Err, IsTrue}
use Rattle.sip_wire.specs.Faults.{IsOfBytes}
use Rattle.sip_wire.specs.Reading.{read_frame}
use Rattle.sip_wire.specs.Spelling.{asked, fits, spelling}
use Rattle.sip_wire.specs.declared.kind.Place.TheVariants as places
use Rattle.sip_wire.specs.declared.message.Message.{Message}
use Rattle.sip_wire.specs.declared.message.Message.TheVariants as messages
use Rattle.sip_wire.specs.declared.message.Held.{Held}
use Rattle.sip_wire.specs.declared.message.WireFault.{WireFault}
use Rattle.sip_wire.specs.declared.version.Version.{Version}
use Rattle.sip_ask_steps.specs.declared.hearing.Says.{Says}
use Rattle.sip_ask_steps.specs.declared.hearing.Says.TheVariants as says

-- a message that says what is held
abbrev pub IsHeld : Message → Type 0
IsHeld m = (held : Held) × (m ≡ messages.Held held)

-- they are a part of the frame; or the whole of it; or begin no such frame
abbrev pub SaysHeld : Version → List ℕ → Says → Type 0
SaysHeld version bytes says.Nothing = length bytes < asked version places.Held bytes
SaysHeld version bytes (says.Holds held) =
    (bytes ≡ spelling version (messages.Held held)) × IsTrue (fits version (messages.Held held))
SaysHeld version bytes says.Other =
    (fault : WireFault) × IsOfBytes fault × (read_frame version places.Held bytes ≡ Err fault)
