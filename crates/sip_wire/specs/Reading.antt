-- The message at the front of bytes.
use Rattle.std.specs.Prelude.{ℕ, List, take, drop, slice_index, Option, Some, None, Result, Ok, Err}
use Rattle.sip_wire.specs.declared.kind.Kind.{Kind}
use Rattle.sip_wire.specs.declared.kind.Place.{Place}
use Rattle.sip_wire.specs.declared.message.Message.{Message}
use Rattle.sip_wire.specs.declared.message.WireFault.{WireFault}
use Rattle.sip_wire.specs.declared.message.WireFault.TheVariants as faults
use Rattle.sip_wire.specs.declared.version.Version.{Version}
use Rattle.sip_wire.specs.Table.{shape, kind_at}
use Rattle.sip_wire.specs.Values.{message_from}
use Rattle.sip_wire.specs.Spelling.{mark_in, said_in, frame_fault, asked}

-- the message that a body of this kind says
abbrev pub said_by : Version → Kind → List ℕ → Message
said_by version kind body =
    message_from kind (mark_in (shape version kind) body) (said_in (shape version kind) body)

-- what a frame says, by its kind and its fault, and what follows it
abbrev pub read_of : Version → Option Kind → Option WireFault → List ℕ → List ℕ
    → Result (Message × List ℕ) WireFault
read_of version kind (Some fault) frame rest = Err fault
read_of version (Some kind) None frame rest = Ok (said_by version kind (drop 3 frame), rest)
read_of version None None frame rest = Err faults.BadKind

-- The message at the front of the bytes, and what follows its frame; or the fault. Closed says that
-- the frame isn't whole.
unfoldable pub read_frame : Version → Place → List ℕ → Result (Message × List ℕ) WireFault
read_frame version place bytes =
    let n = asked version place bytes in
    read_of version (kind_at place (slice_index bytes 0)) (frame_fault version place (take n bytes))
    (take n bytes) (drop n bytes)
