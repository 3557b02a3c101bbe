-- What a call did that shows a sketch.
use Rattle.std.specs.Prelude.{◌≡◌, ◌⊎◌, ℕ, ◌<◌, List, [], length, take, Some, Err}
use Rattle.std.specs.Option.{unwrap_or}
use Rattle.std.specs.declared.option.Option.{Option}
use Rattle.sip_ports.specs.Ports.{GoesOn, outs}
use Rattle.sip_ports.specs.declared.port.TalkEvent.{TalkEvent}
use Rattle.sip_sketch.specs.Fields.{read}
use Rattle.sip_sketch.specs.Files.{Finds}
use Rattle.sip_sketch.specs.SeatLines.{lines_of}
use Rattle.sip_sketch.specs.Sketches.{IsSketch, SketchValues, sketch_file, spelled_file}
use Rattle.sip_sketch.specs.declared.status.SketchPort.TheVariants as ports
use Rattle.sip_sketch.specs.declared.status.SketchStatus.{SketchStatus}
use Rattle.sip_sketch.specs.declared.status.SketchStatus.TheVariants as statuses

-- ---- over files with these contents, where they are told

module _ (files : Option (ℕ → Option (List ℕ))) where
  -- what was loaded is no file of a sketch from this byte on; a missing file is as an empty one
  abbrev pub IsBadAt : ℕ → Type 0
  IsBadAt offset =
      (file : Option (List ℕ)) × Finds files 0 file
      × (read sketch_file (unwrap_or file []) ≡ Err offset)

  -- the sketch whose file was loaded
  pub record IsLoaded (sketch : SketchValues) : Type 0 where
    pub fits : IsSketch sketch
    pub found : Finds files 0 (Some (spelled_file sketch))

  -- all of its lines were written
  abbrev pub IsShown : Option (List TalkEvent) → Option (List TalkEvent) → Type 0
  IsShown old new =
      (sketch : SketchValues) × IsLoaded sketch × GoesOn old new (outs (lines_of sketch))

  -- writing them stopped behind a front of them that is shorter
  abbrev pub IsShownInPart : Option (List TalkEvent) → Option (List TalkEvent) → Type 0
  IsShownInPart old new = (sketch : SketchValues) × (count : ℕ) × IsLoaded sketch
      × (count < length (lines_of sketch)) × GoesOn old new (outs (take count (lines_of sketch)))

  -- what was loaded at this status, and what was written to the report
  abbrev pub Shows : Option (List TalkEvent) → Option (List TalkEvent) → SketchStatus → Type 0
  Shows old new statuses.Wrote = IsShown old new
  Shows old new (statuses.BadSketch part offset) =
      (part ≡ 0) × IsBadAt offset × GoesOn old new []
  Shows old new (statuses.ReadFault ports.Sketch) = GoesOn old new []
  Shows old new (statuses.WriteFault ports.Report) = IsShownInPart old new
  Shows old new statuses.OutOfMemory = GoesOn old new [] ⊎ IsShownInPart old new
  Shows old new _ = ⊥
