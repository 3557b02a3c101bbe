-- What adding the records of a stream to a sketch did, by its status.
use Rattle.std.specs.Prelude.{◌≡◌, ◌⊎◌, ℕ, List, length, Some}
use Rattle.std.specs.declared.option.Option.{Option}
use Rattle.sip_ports.specs.declared.port.TalkEvent.{TalkEvent}
use Rattle.sip_stream.specs.declared.fault.StreamFault.{StreamFault}
use Rattle.sip_stream.specs.declared.fault.StreamFault.TheVariants as faults
use Rattle.sip_stream.specs.declared.form.Form.{Form}
use Rattle.sip_vector.specs.declared.update.Update.{Update}
use Rattle.sip_sketch.specs.Sketches.{SketchValues}
use Rattle.sip_sketch.specs.Standing.{MayCome, Stands}
use Rattle.sip_sketch.specs.Watching.{IsCut, IsStored, ReadsTo}
use Rattle.sip_sketch.specs.inside.Raising.{IsGrown}
use Rattle.sip_sketch.specs.declared.filling.Pause.{Pause}
use Rattle.sip_sketch.specs.declared.filling.Pause.TheVariants.{Ended, Stopped}
use Rattle.sip_sketch.specs.declared.status.SketchPort.TheVariants as ports
use Rattle.sip_sketch.specs.declared.status.SketchStatus.{SketchStatus}
use Rattle.sip_sketch.specs.declared.status.SketchStatus.TheVariants as statuses

-- the status where a stream is read no further, at this record
abbrev pub status_of : StreamFault → ℕ → SketchStatus
status_of (faults.Bad at why) number = statuses.BadStream number why
status_of faults.ReadFault number = statuses.ReadFault ports.First
status_of faults.OutOfMemory number = statuses.OutOfMemory

-- Of a stream with some bytes to come these records were read, each legal after all of the sketch,
-- before reading paused.
abbrev pub AreAdded : Form → SketchValues → Option (List ℕ) → Option (List ℕ) → List Update → Pause
    → Type 0
AreAdded form s left left' added pause = (bytes : List ℕ) → left ≡ Some bytes
    → (stream : List Update) → Stands stream s
    → ReadsTo s.depth form stream bytes left' added pause

-- These records came to the sketch, so many, before reading paused.
pub record HasCome (form : Form) (s now : SketchValues) (left left' : Option (List ℕ)) (count : ℕ)
    (pause : Pause) : Type 0 where
  pub us : List Update
  pub many : length us ≡ count
  pub come : MayCome s us
  pub grown : IsGrown us s now
  pub reads : (stream : List Update) (bytes : List ℕ) → Stands stream s → left ≡ Some bytes
      → ReadsTo s.depth form stream bytes left' us pause

module _ (form : Form) (every : Option ℕ) (s : SketchValues) (left : Option (List ℕ))
    (old : Option (List TalkEvent)) (left' : Option (List ℕ)) (new : Option (List TalkEvent)) where
  -- they came to the sketch, which was stored each time that it was due, or this was cut
  abbrev pub Stored : Pause → Type 0
  Stored pause =
      (added : List Update) × IsStored every s added old new
      × AreAdded form s left left' added pause

  abbrev pub Cut : Type 0
  Cut = (added : List Update) × (pause : Pause) × IsCut every s added old new
      × AreAdded form s left left' added pause

  abbrev pub Adds : SketchStatus → Type 0
  Adds statuses.Wrote = Stored Ended
  Adds (statuses.BadStream number why) = Stored (Stopped (faults.Bad number why))
  Adds (statuses.ReadFault ports.First) = Stored (Stopped faults.ReadFault)
  Adds (statuses.WriteFault ports.Sketch) = Cut
  Adds statuses.OutOfMemory = Stored (Stopped faults.OutOfMemory) ⊎ Cut
  Adds _ = ⊥
