-- What storing a sketch once more did, behind what had ended.
use Rattle.std.specs.Prelude.{◌≡◌, ◌⊎◌, ℕ, List}
use Rattle.std.specs.declared.option.Option.{Option}
use Rattle.sip_ports.specs.Desk.{steps}
use Rattle.sip_ports.specs.Ports.{GoesOn}
use Rattle.sip_ports.specs.declared.port.TalkEvent.{TalkEvent}
use Rattle.sip_sketch.specs.declared.status.SketchPort.TheVariants as ports
use Rattle.sip_sketch.specs.declared.status.SketchStatus.{SketchStatus}
use Rattle.sip_sketch.specs.declared.status.SketchStatus.TheVariants as statuses
use Rattle.sip_sketch.specs.inside.Storing.{IsStopped}

-- storing stopped, with one of its statuses
abbrev pub StopsWith : Option (List TalkEvent) → Option (List TalkEvent) → List ℕ → SketchStatus
    → Type 0
StopsWith old new file result = IsStopped old new file
    × ((result ≡ statuses.WriteFault ports.Sketch) ⊎ (result ≡ statuses.OutOfMemory))

-- the file was stored, and the status is the one of before; or that stopped
abbrev pub Closes : Option (List TalkEvent) → Option (List TalkEvent) → List ℕ → SketchStatus
    → SketchStatus → Type 0
Closes old new file status result = (GoesOn old new (steps file) × (result ≡ status))
    ⊎ StopsWith old new file result
