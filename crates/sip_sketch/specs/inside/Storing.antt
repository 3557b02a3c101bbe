-- What storing a file did, by its status.
use Rattle.std.specs.Prelude.{◌<◌, ℕ, List, length, take}
use Rattle.std.specs.declared.option.Option.{Option}
use Rattle.sip_ports.specs.Desk.{steps}
use Rattle.sip_ports.specs.Ports.{GoesOn}
use Rattle.sip_ports.specs.declared.port.TalkEvent.{TalkEvent}
use Rattle.sip_sketch.specs.declared.status.SketchPort.TheVariants as ports
use Rattle.sip_sketch.specs.declared.status.SketchStatus.{SketchStatus}
use Rattle.sip_sketch.specs.declared.status.SketchStatus.TheVariants as statuses

-- storing stopped before its last step
abbrev pub IsStopped : Option (List TalkEvent) → Option (List TalkEvent) → List ℕ → Type 0
IsStopped old new file =
    (n : ℕ) × (n < length (steps file)) × GoesOn old new (take n (steps file))

-- the file was stored, or that stopped
abbrev pub Stores : Option (List TalkEvent) → Option (List TalkEvent) → List ℕ → SketchStatus
    → Type 0
Stores old new file statuses.Wrote = GoesOn old new (steps file)
Stores old new file (statuses.WriteFault ports.Sketch) = IsStopped old new file
Stores old new file statuses.OutOfMemory = IsStopped old new file
Stores old new file _ = ⊥
