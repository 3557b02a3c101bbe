-- What a call did that begins the sketch of a desk.
use Rattle.std.specs.Prelude.{◌≡◌, ◌⊎◌, ℕ, ◌*◌, ◌<◌, ◌≤◌, Bool, true, false, ⊤, List, [], length}
use Rattle.std.specs.Prelude.{take, None, Some}
use Rattle.std.specs.declared.option.Option.{Option}
use Rattle.sip_ports.specs.Desk.{Loads, steps}
use Rattle.sip_ports.specs.Ports.{GoesOn}
use Rattle.sip_ports.specs.declared.port.TalkEvent.{TalkEvent}
use Rattle.sip_verifier.specs.Draws.{challenges_of}
use Rattle.sip_sketch.specs.Sketches.{SketchValues, spelled_file}
use Rattle.sip_sketch.specs.Standing.{IsBegun}
use Rattle.sip_sketch.specs.declared.kind.SeatKind.{SeatKind}
use Rattle.sip_sketch.specs.declared.parts.Parts.{Parts}
use Rattle.sip_sketch.specs.declared.status.SketchPort.TheVariants as ports
use Rattle.sip_sketch.specs.declared.status.SketchStatus.{SketchStatus}
use Rattle.sip_sketch.specs.declared.status.SketchStatus.TheVariants as statuses

-- ---- the seed

-- these are the first 32 of the bytes to come, where those are told
abbrev pub IsSeedOf : Option (List ℕ) → List ℕ → Type 0
IsSeedOf None seed = length seed ≡ 32
IsSeedOf (Some bytes) seed = (32 ≤ length bytes) × (seed ≡ take 32 bytes)

-- there are not so many
abbrev pub IsShort : Option (List ℕ) → Type 0
IsShort None = ⊤
IsShort (Some bytes) = length bytes < 32

-- the seed was not read: the file was not found to be missing
abbrev pub is_unread : SketchStatus → Bool
is_unread statuses.Exists = true
is_unread statuses.Busy = true
is_unread (statuses.ReadFault ports.Sketch) = true
is_unread _ = false

-- ---- a sketch at this depth, with this part in, with a seat of each of these kinds, by a seed of
-- these bytes to come

module _ (depth : ℕ) (part : Parts) (kinds : List SeatKind) (left : Option (List ℕ)) where
  -- the file of the sketch of the empty stream, at the seed's challenges
  pub record IsFirstFile (file : List ℕ) : Type 0 where
    pub seed : List ℕ
    pub given : IsSeedOf left seed
    pub sketch : SketchValues
    pub begun : IsBegun seed depth part kinds sketch
    pub spelled : file ≡ spelled_file sketch

  -- the seed doesn't give so many challenges
  pub record IsSpent : Type 0 where
    pub seed : List ℕ
    pub given : IsSeedOf left seed
    pub none : challenges_of (depth * length kinds) seed ≡ None

  -- the file was stored
  pub record IsStored (old new : Option (List TalkEvent)) : Type 0 where
    pub file : List ℕ
    pub first : IsFirstFile file
    pub talk : GoesOn old new (steps file)

  -- storing the file stopped before its last step
  pub record IsCut (old new : Option (List TalkEvent)) : Type 0 where
    pub file : List ℕ
    pub first : IsFirstFile file
    pub count : ℕ
    pub short : count < length (steps file)
    pub talk : GoesOn old new (take count (steps file))

  -- What was loaded at this status, and what was done to the file, which started so. Only where it
  -- is missing the seed is read, and only with a seed that gives all challenges one is stored.
  abbrev pub Begins : Option (List ℕ) → Option (List TalkEvent) → Option (List TalkEvent)
      → SketchStatus → Type 0
  Begins start old new statuses.Wrote = Loads start old None × IsStored old new
  Begins start old new statuses.Exists =
      (bytes : List ℕ) × Loads start old (Some bytes) × GoesOn old new []
  Begins start old new statuses.BadSeed = Loads start old None × IsShort left × GoesOn old new []
  Begins start old new statuses.SeedSpent = Loads start old None × IsSpent × GoesOn old new []
  Begins start old new statuses.Busy = GoesOn old new []
  Begins start old new (statuses.ReadFault ports.Second) =
      Loads start old None × GoesOn old new []
  Begins start old new (statuses.ReadFault ports.Sketch) = GoesOn old new []
  Begins start old new (statuses.WriteFault ports.Sketch) = Loads start old None × IsCut old new
  Begins start old new statuses.OutOfMemory =
      GoesOn old new [] ⊎ (Loads start old None × IsCut old new)
  Begins start old new _ = ⊥

  -- this is what a file of the call has, whole
  abbrev pub IsNew : Option (List ℕ) → Type 0
  IsNew content = (file : List ℕ) × IsFirstFile file × (content ≡ Some file)
