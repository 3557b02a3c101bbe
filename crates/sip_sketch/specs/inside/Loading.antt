-- Why no sketch was loaded.
use Rattle.std.specs.Prelude.{◌≡◌, ℕ, ⊤, List, [], Err}
use Rattle.std.specs.Option.{unwrap_or}
use Rattle.std.specs.declared.option.Option.{Option}
use Rattle.sip_sketch.specs.Fields.{read}
use Rattle.sip_sketch.specs.Showing.{IsBadAt}
use Rattle.sip_sketch.specs.Sketches.{sketch_file}
use Rattle.sip_sketch.specs.declared.status.SketchPort.TheVariants as ports
use Rattle.sip_sketch.specs.declared.status.SketchStatus.{SketchStatus}
use Rattle.sip_sketch.specs.declared.status.SketchStatus.TheVariants as statuses

-- the file of the desk was not loaded
abbrev pub IsUnloaded : SketchStatus → Type 0
IsUnloaded statuses.Busy = ⊤
IsUnloaded (statuses.ReadFault ports.Sketch) = ⊤
IsUnloaded statuses.OutOfMemory = ⊤
IsUnloaded _ = ⊥

-- these bytes of a part were not read
abbrev pub IsUnread : ℕ → List ℕ → SketchStatus → Type 0
IsUnread part bytes (statuses.BadSketch number offset) =
    (number ≡ part) × (read sketch_file bytes ≡ Err offset)
IsUnread part bytes statuses.OutOfMemory = ⊤
IsUnread part bytes _ = ⊥

-- nor was the file of a part, which is read as an empty one where it is missing
abbrev pub IsNoSketch : ℕ → Option (List ℕ) → SketchStatus → Type 0
IsNoSketch part file = IsUnread part (unwrap_or file [])

-- no sketch was loaded, of these files, where they are told
abbrev pub IsUnshown : Option (ℕ → Option (List ℕ)) → SketchStatus → Type 0
IsUnshown files (statuses.BadSketch part offset) = (part ≡ 0) × IsBadAt files offset
IsUnshown files (statuses.ReadFault ports.Sketch) = ⊤
IsUnshown files statuses.OutOfMemory = ⊤
IsUnshown files _ = ⊥
