-- Why a sketch was not begun, before its file was stored.
use Rattle.std.specs.Prelude.{ℕ, ⊤, List, Some}
use Rattle.std.specs.declared.option.Option.{Option}
use Rattle.sip_ports.specs.Desk.{Loads}
use Rattle.sip_ports.specs.declared.port.TalkEvent.{TalkEvent}
use Rattle.sip_sketch.specs.Beginnings.{IsShort}
use Rattle.sip_sketch.specs.declared.status.SketchPort.TheVariants as ports
use Rattle.sip_sketch.specs.declared.status.SketchStatus.{SketchStatus}
use Rattle.sip_sketch.specs.declared.status.SketchStatus.TheVariants as statuses

-- the file was not found to be missing
abbrev pub IsNotMissing : Option (List ℕ) → Option (List TalkEvent) → SketchStatus → Type 0
IsNotMissing start talk statuses.Exists = (bytes : List ℕ) × Loads start talk (Some bytes)
IsNotMissing start talk statuses.Busy = ⊤
IsNotMissing start talk (statuses.ReadFault ports.Sketch) = ⊤
IsNotMissing start talk statuses.OutOfMemory = ⊤
IsNotMissing start talk _ = ⊥

-- there is no seed
abbrev pub HasNoSeed : Option (List ℕ) → SketchStatus → Type 0
HasNoSeed left statuses.BadSeed = IsShort left
HasNoSeed left (statuses.ReadFault ports.Second) = ⊤
HasNoSeed left statuses.OutOfMemory = ⊤
HasNoSeed left _ = ⊥
