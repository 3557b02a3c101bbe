-- What comes of bytes that are sent, by the frames that they make up.
use Rattle.std.specs.Prelude.{◌≡◌, ℕ, List, [], ◌++◌}
use Rattle.sip_wire.specs.declared.frame.Taken.{Taken}
use Rattle.sip_wire.specs.declared.frame.Taken.TheVariants.{Part, Whole, NoFrame}
use Rattle.sip_wire.specs.declared.kind.Place.TheVariants.{ToHelper}
use Rattle.sip_wire.specs.declared.message.Message.{Message}
use Rattle.sip_wire.specs.declared.message.Message.TheVariants as messages
use Rattle.sip_wire.specs.declared.version.Version.{Version}
use Rattle.sip_wire.specs.Decoding.{Took}
use Rattle.sip_wire.specs.Taking.{ShowsFault}
use Rattle.sip_helper.specs.Turns.{version_opened}

-- the version of the frames behind a message
abbrev pub version_after : Version → Message → Version
version_after version (messages.Open number depth) = version_opened number
version_after version _ = version

-- Behind the part of a frame more bytes were sent: the frame isn't whole yet, or it is the spelling
-- of this message, or the bytes are no frame. What stays is the part.
abbrev pub Takes : Version → List ℕ → List ℕ → Message → Version → List ℕ → Taken → Type 0
Takes version part bytes m now after Part = (now ≡ version) × (after ≡ part ++ bytes)
Takes version part bytes m now after Whole =
    Took version ToHelper (part ++ bytes) m × (now ≡ version_after version m) × (after ≡ [])
Takes version part bytes m now after (NoFrame fault) =
    ShowsFault version ToHelper (part ++ bytes) fault × (now ≡ version) × (after ≡ [])
