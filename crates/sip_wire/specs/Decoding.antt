-- What a call that decodes a frame answers, by the bytes that it received.
use Rattle.std.specs.Prelude.{◌≡◌, ◌≢◌, ℕ, ◌<◌, ◌≤◌, IsTrue, List, [], ◌++◌, slice_index, Option}
use Rattle.std.specs.Prelude.{Some, Result, Ok, Err, MatchResult}
use Rattle.sip_ports.specs.declared.port.TalkEvent.{TalkEvent}
use Rattle.sip_ports.specs.Ports.{GoesOn, Rose, ins}
use Rattle.sip_wire.specs.declared.message.Message.{Message}
use Rattle.sip_wire.specs.declared.message.WireFault.{WireFault}
use Rattle.sip_wire.specs.declared.message.WireFault.TheVariants as faults
use Rattle.sip_wire.specs.declared.kind.Kind.{Kind}
use Rattle.sip_wire.specs.declared.kind.Place.{Place}
use Rattle.sip_wire.specs.declared.version.Version.{Version}
use Rattle.sip_wire.specs.Table.{longest_body, allows, shape, kind_at}
use Rattle.sip_wire.specs.Values.{InRange}
use Rattle.sip_wire.specs.Faults.{ended_by, IsOfBytes}
use Rattle.sip_wire.specs.Spelling.{fits, kind_of, spelling, length_in, frame_fault, asked}
use Rattle.sip_wire.specs.Reading.{read_frame}

-- each is a byte
abbrev pub IsBytes : List ℕ → Type 0
IsBytes bytes = (i : ℕ) → slice_index bytes i < 256

-- the head of a frame that may stand at a place
pub record Head (version : Version) (place : Place) (bytes : List ℕ) (kind : Kind)
    (len : ℕ) : Type 0 where
  pub its_kind : kind_at place (slice_index bytes 0) ≡ Some kind
  pub allowed : IsTrue (allows place kind)
  pub its_length : len ≡ length_in bytes
  pub short : len ≤ longest_body
  pub has_length : IsTrue ((shape version kind).has_length len)

-- the head of a frame was found, or the fault of three bytes, to which no more belong
abbrev pub FindsHead : Version → Place → List ℕ → Result (Kind × ℕ) WireFault → Type 0
FindsHead version place bytes result = MatchResult result
    (λ x. Head version place bytes x.0 x.1)
    (λ f. (frame_fault version place bytes ≡ Some f) × IsOfBytes f
    × (asked version place bytes ≡ 3))

-- a message stands in front of bytes: it fits, may stand there, and is spelled in front of what
-- follows
pub record Spelled (version : Version) (place : Place) (bytes : List ℕ) (m : Message)
    (rest : List ℕ) : Type 0 where
  pub has_spelling : IsTrue (fits version m)
  pub allowed : IsTrue (allows place (kind_of m))
  pub in_range : InRange m
  pub spelled : bytes ≡ spelling version m ++ rest

-- the message whose spelling was received, and which is read off these bytes with nothing behind it
pub record Took (version : Version) (place : Place) (got : List ℕ) (m : Message) : Type 0 where
  pub has_spelling : IsTrue (fits version m)
  pub allowed : IsTrue (allows place (kind_of m))
  pub in_range : InRange m
  pub spelled : got ≡ spelling version m
  pub read : read_frame version place got ≡ Ok (m, [])

-- A fault is what reading the bytes answers. Where the link failed or memory ran out, the frame
-- isn't whole.
abbrev pub Fails : Version → Place → List ℕ → ℕ → ℕ → WireFault → Type 0
Fails version place got before now faults.PeerFault =
    (read_frame version place got ≡ Err faults.Closed) × Rose before now
Fails version place got before now faults.OutOfMemory =
    read_frame version place got ≡ Err faults.Closed
Fails version place got before now fault = read_frame version place got ≡ Err fault

-- What a call did that received these bytes, which the frame shows, and answered by them.
pub record Decodes (version : Version) (place : Place) (old new : Option (List TalkEvent))
    (before now : ℕ) (got : List ℕ) (result : Result Message WireFault) : Type 0 where
  -- nothing else happened on the link
  pub heard : GoesOn old new (ins got ++ ended_by result)
  -- a message is one whose spelling was received, and a fault is that of the bytes
  pub answer : MatchResult result (Took version place got) (Fails version place got before now)
  -- where a message's spelling was received, that message is answered
  pub only : (m : Message) → InRange m → IsTrue (fits version m) → IsTrue (allows place (kind_of m))
      → got ≡ spelling version m → result ≡ Ok m
  -- no byte was received that the answer does not need
  pub short : (front more : List ℕ) → got ≡ front ++ more → more ≢ []
      → read_frame version place front ≡ Err faults.Closed
