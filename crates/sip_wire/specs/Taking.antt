-- What bytes that are put behind each other are, and how many more are taken of them.
use Rattle.std.specs.Prelude.{◌≡◌, ℕ, ◌-◌, ◌<◌, List, length, nat_lt, if◌then◌else◌, Err}
use Rattle.sip_wire.specs.declared.frame.Taken.{Taken}
use Rattle.sip_wire.specs.declared.frame.Taken.TheVariants.{Part, Whole, NoFrame}
use Rattle.sip_wire.specs.declared.kind.Place.{Place}
use Rattle.sip_wire.specs.declared.message.Message.{Message}
use Rattle.sip_wire.specs.declared.message.WireFault.{WireFault}
use Rattle.sip_wire.specs.declared.message.WireFault.TheVariants as faults
use Rattle.sip_wire.specs.declared.version.Version.{Version}
use Rattle.sip_wire.specs.Decoding.{Took}
use Rattle.sip_wire.specs.Faults.{IsOfBytes}
use Rattle.sip_wire.specs.Reading.{read_frame}
use Rattle.sip_wire.specs.Spelling.{asked}

-- how many more bytes a frame takes before it is looked at: up to its head, and then up to its end
abbrev pub room_for : Version → Place → List ℕ → ℕ
room_for version place bytes =
    (if nat_lt (length bytes) 3 then 3 else asked version place bytes) - length bytes

-- the bytes show this fault: no frame begins with them
pub record ShowsFault (version : Version) (place : Place) (bytes : List ℕ) (fault : WireFault)
    : Type 0 where
  pub shown : IsOfBytes fault
  pub read : read_frame version place bytes ≡ Err fault

-- no frame begins with the bytes
abbrev pub IsNoFrame : Version → Place → List ℕ → Type 0
IsNoFrame version place bytes = (fault : WireFault) × ShowsFault version place bytes fault

-- the bytes are a part of a frame
pub record IsPart (version : Version) (place : Place) (bytes : List ℕ) : Type 0 where
  pub short : length bytes < asked version place bytes
  pub read : read_frame version place bytes ≡ Err faults.Closed

-- The bytes are a part of a frame, exactly where reading them answers Closed; or they are the
-- spelling of this message, or show a fault, exactly where reading them answers that.
abbrev pub Judges : Version → Place → List ℕ → Message → Taken → Type 0
Judges version place bytes m Part = IsPart version place bytes
Judges version place bytes m Whole = Took version place bytes m
Judges version place bytes m (NoFrame fault) = ShowsFault version place bytes fault
