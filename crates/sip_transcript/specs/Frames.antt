-- What taking frames off a source answers.
use Rattle.std.specs.Prelude.{◌≡◌, ◌≢◌, ℕ, ⊤, Bool, true, false, List, [], ◌∷◌, ◌++◌, ◌<◌, ◌≤◌}
use Rattle.std.specs.Prelude.{length, Option, Some, None, Result, Ok, Err}
use Rattle.std.specs.Io.KnownBytes.{Consumes}
use Rattle.sip_ports.specs.declared.port.PortStop.{PortStop}
use Rattle.sip_wire.specs.declared.kind.Place.{Place}
use Rattle.sip_wire.specs.declared.kind.Place.TheVariants.{ToVerifier}
use Rattle.sip_wire.specs.declared.message.Message.{Message}
use Rattle.sip_wire.specs.declared.message.WireFault.{WireFault}
use Rattle.sip_wire.specs.declared.version.Version.{Version}
use Rattle.sip_wire.specs.Decoding.{Took}
use Rattle.sip_wire.specs.Reading.{read_frame}
use Rattle.sip_wire.specs.Spelling.{asked}
use Rattle.sip_verifier.specs.Exchanges.{TakesAtMost}
use Rattle.sip_transcript.specs.declared.frames.Reply.{Reply}
use Rattle.sip_transcript.specs.declared.frames.Reply.TheVariants as next

-- Reading a byte. It was taken, or there is none.
abbrev pub ReadsByte : Option (List ℕ) → Option (List ℕ) → Result (Option ℕ) PortStop → Type 0
ReadsByte old new (Ok (Some byte)) = Consumes old new (byte ∷ [])
ReadsByte old new (Ok None) =
    ((bytes : List ℕ) → old ≡ Some bytes → bytes ≡ []) × Consumes old new []
ReadsByte old new (Err stop) = ⊤

-- the source had no more bytes than these
abbrev pub WasAll : Option (List ℕ) → List ℕ → Type 0
WasAll old got = (bytes : List ℕ) → old ≡ Some bytes → bytes ≡ got

-- bytes were taken, and stand behind those before: so many that they are `upto`, or all that there
-- were
pub record TakesMore (old new : Option (List ℕ)) (before after : List ℕ) (upto : ℕ)
    : Type 0 where
  pub more : List ℕ
  pub longer : after ≡ before ++ more
  pub taken : Consumes old new more
  pub within : length after ≤ upto
  pub all : length after < upto → WasAll old more

-- Taking a frame at a place. It is these bytes, or they are all that the source had; or there is no
-- room for as many bytes as it has.
abbrev pub HasFrame : Place → Version → ℕ → Option (List ℕ) → Option (List ℕ) → List ℕ
    → Result Bool PortStop → Type 0
HasFrame place version room old new frame (Ok true) =
    Consumes old new frame × (length frame ≤ asked version place frame)
    × (length frame < asked version place frame → WasAll old frame)
HasFrame place version room old new frame (Ok false) = TakesAtMost room old new
    × ((bytes : List ℕ) → old ≡ Some bytes → room < asked version place bytes)
HasFrame place version room old new frame (Err stop) = ⊤

-- Taking a reply: there is none; or the bytes begin with no whole frame to a verifier; or the
-- spelling of the message that the frame has was taken.
abbrev pub ReadsReply : Version → Option (List ℕ) → Option (List ℕ) → List ℕ → Message
    → Result Reply PortStop → Type 0
ReadsReply version old new frame m (Ok next.End) = WasAll old [] × Consumes old new []
ReadsReply version old new frame m (Ok next.Faulty) =
    (bytes : List ℕ) → old ≡ Some bytes
    → (bytes ≢ []) × (fault : WireFault) × (read_frame version ToVerifier bytes ≡ Err fault)
ReadsReply version old new frame m (Ok next.Said) =
    Took version ToVerifier frame m × Consumes old new frame
ReadsReply version old new frame m (Err stop) = ⊤
