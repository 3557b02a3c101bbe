-- What a call did that watches a stream for the sketch of a desk.
use Rattle.std.specs.Prelude.{◌≡◌, ◌≢◌, ◌⊎◌, ℕ, ◌+◌, ◌*◌, ◌/◌, ◌<◌, ◌≤◌, Bool, true, false, List}
use Rattle.std.specs.Prelude.{[], ◌∷◌, ◌++◌, length, take, map, flat_map, None, Some, Contains}
use Rattle.std.specs.List.{AllZip, range_with_len}
use Rattle.std.specs.declared.option.Option.{Option}
use Rattle.sip_ports.specs.Desk.{Loads, steps}
use Rattle.sip_ports.specs.Ports.{GoesOn}
use Rattle.sip_ports.specs.declared.port.TalkEvent.{TalkEvent}
use Rattle.sip_stream.specs.Pieces.{TakesFront}
use Rattle.sip_stream.specs.Reading.{IsAfter, Reading}
use Rattle.sip_stream.specs.Records.{records_from}
use Rattle.sip_stream.specs.declared.fault.StreamFault.TheVariants as faults
use Rattle.sip_stream.specs.declared.form.Form.{Form}
use Rattle.sip_stream.specs.declared.why.Why.{Why}
use Rattle.sip_vector.specs.Streams.{IsLegal}
use Rattle.sip_vector.specs.declared.update.Update.{Update}
use Rattle.sip_sketch.specs.Loaded.{IsBadFile}
use Rattle.sip_sketch.specs.Sketches.{IsSketch, SketchValues, spelled_file}
use Rattle.sip_sketch.specs.Standing.{Stands}
use Rattle.sip_sketch.specs.inside.Raising.{IsGrown}
use Rattle.sip_sketch.specs.declared.filling.Pause.{Pause}
use Rattle.sip_sketch.specs.declared.filling.Pause.TheVariants.{Full, Ended, Stopped}
use Rattle.sip_sketch.specs.declared.status.SketchPort.TheVariants as ports
use Rattle.sip_sketch.specs.declared.status.SketchStatus.{SketchStatus}
use Rattle.sip_sketch.specs.declared.status.SketchStatus.TheVariants as statuses

-- ---- what is read

-- These records lie in front of some bytes that come behind others, and these bytes are the rest.
pub record LieInFront (depth : ℕ) (form : Form) (before : List Update) (bytes : List ℕ)
    (us : List Update) (rest : List ℕ) : Type 0 where
  pub front : List ℕ
  pub order : bytes ≡ front ++ rest
  pub same : records_from depth form before bytes ≡ records_from depth form (before ++ us) rest

-- they were read before a source stopped
abbrev pub ReadsFront : ℕ → Form → List Update → List ℕ → Option (List ℕ) → List Update → Type 0
ReadsFront depth form before bytes left us =
    (rest : List ℕ) × LieInFront depth form before bytes us rest × TakesFront rest left

-- These records were read of bytes that come behind others, until reading paused: all that there
-- are, where the bytes ended; those in front of the one that is not legal; or as many as were asked
-- for. A source that stopped has given a front of the rest.
abbrev pub ReadsTo : ℕ → Form → List Update → List ℕ → Option (List ℕ) → List Update → Pause
    → Type 0
ReadsTo depth form before bytes left us Full =
    (rest : List ℕ) × LieInFront depth form before bytes us rest × (left ≡ Some rest)
ReadsTo depth form before bytes left us Ended = (left ≡ Some [])
    × (records_from depth form before bytes ≡ record { legal = before ++ us; fault = None })
ReadsTo depth form before bytes left us (Stopped (faults.Bad at why)) =
    TakesFront bytes left × (at ≡ length (before ++ us))
    × (records_from depth form before bytes ≡ record { legal = before ++ us; fault = Some why })
ReadsTo depth form before bytes left us (Stopped faults.ReadFault) =
    ReadsFront depth form before bytes left us
ReadsTo depth form before bytes left us (Stopped faults.OutOfMemory) =
    ReadsFront depth form before bytes left us

-- the reader behind these records, where it may go on
abbrev pub GoesOnAfter : Reading → List Update → Pause → Type 0
GoesOnAfter new stream Full = IsAfter new stream
GoesOnAfter new stream _ = IsLegal new.depth stream

-- ---- what is stored

-- the file of a sketch to which the first so many of these records came
pub record IsFileAt (s : SketchValues) (added : List Update) (count : ℕ) (file : List ℕ)
    : Type 0 where
  pub within : count ≤ length added
  pub now : SketchValues
  pub is : IsSketch now
  pub grown : IsGrown (take count added) s now
  pub spelled : file ≡ spelled_file now

-- The numbers of added records at which the sketch is stored, once there are so many: each multiple
-- of `every`, where there is one, and at the end.
abbrev pub multiples : Option ℕ → ℕ → List ℕ
multiples None count = []
multiples (Some every) count = map (λ k. (k + 1) * every) (range_with_len 0 (count / every))

abbrev pub due : Option ℕ → ℕ → List ℕ
due every count = multiples every count ++ count ∷ []

module _ (every : Option ℕ) (s : SketchValues) (added : List Update)
    (old new : Option (List TalkEvent)) where
  -- the sketch was stored each time that it was due
  pub record IsStored : Type 0 where
    pub files : List (List ℕ)
    pub each : AllZip (IsFileAt s added) (due every (length added)) files
    pub talk : GoesOn old new (flat_map steps files)

  -- that stopped at one of the steps
  pub record IsCut : Type 0 where
    pub files : List (List ℕ)
    pub each : AllZip (IsFileAt s added) (due every (length added)) files
    pub count : ℕ
    pub short : count < length (flat_map steps files)
    pub talk : GoesOn old new (take count (flat_map steps files))

-- ---- all that is done

-- the number of the stream's first record, by the own count of a sketch with so many records
abbrev pub begins_at : Option ℕ → ℕ → ℕ
begins_at None records = records
begins_at (Some at) records = at

-- why a stream can't begin there: the sketch is a sum of parts, or has not so many records
abbrev pub IsNoStart : Option ℕ → SketchValues → Bool → Type 0
IsNoStart at s true = s.parts.first ≢ s.parts.last
IsNoStart at s false = (s.parts.first ≡ s.parts.last) × (s.tally.count < begins_at at s.tally.count)

module _ (form : Form) (at every : Option ℕ) where
  -- The records that the sketch has already were read, each legal after those before it in the
  -- stream, and behind them these, each legal after all of the sketch.
  pub record IsFollowed (s : SketchValues) (bytes : List ℕ) (left : Option (List ℕ))
      (added : List Update) (pause : Pause) : Type 0 where
    pub passed : List Update
    pub count : begins_at at s.tally.count + length passed ≡ s.tally.count
    pub rest : List ℕ
    pub behind : LieInFront s.depth form [] bytes passed rest
    pub reads : (stream : List Update) → Stands stream s
        → ReadsTo s.depth form stream rest left added pause

  -- reading paused at this record, among those that the sketch has already
  pub record IsBehind (s : SketchValues) (bytes : List ℕ) (left : Option (List ℕ)) (place : ℕ)
      (pause : Pause) : Type 0 where
    pub passed : List Update
    pub number : place ≡ begins_at at s.tally.count + length passed
    pub fewer : place < s.tally.count
    pub reads : ReadsTo s.depth form [] bytes left passed pause

  -- reading paused among these or behind them
  abbrev pub IsRead : SketchValues → List ℕ → Option (List ℕ) → List Update → Pause → Type 0
  IsRead s bytes left added pause = IsFollowed s bytes left added pause
      ⊎ ((added ≡ []) × (number : ℕ) × IsBehind s bytes left number pause)

  -- it paused before a record that is not legal, which has this number
  abbrev pub IsBad : SketchValues → List ℕ → Option (List ℕ) → List Update → ℕ → Why → Type 0
  IsBad s bytes left added number why =
      IsFollowed s bytes left added (Stopped (faults.Bad number why))
      ⊎ ((added ≡ []) × (place : ℕ) × IsBehind s bytes left number (Stopped (faults.Bad place why)))

  -- over a file that started so, a stream of these bytes, and a desk with this talk
  module _ (start left : Option (List ℕ)) (old : Option (List TalkEvent)) where
    -- this sketch was loaded, and its stream may go on there
    pub record IsOpened (s : SketchValues) : Type 0 where
      pub is : IsSketch s
      pub loads : Loads start old (Some (spelled_file s))
      pub one : s.parts.first ≡ s.parts.last
      pub begins : begins_at at s.tally.count ≤ s.tally.count

    -- nothing was read and nothing was stored
    abbrev pub IsUntouched : Option (List ℕ) → Option (List TalkEvent) → Type 0
    IsUntouched left' new = (left' ≡ left) × GoesOn old new []

    -- These records came to the loaded sketch, which was stored, or this was cut; and this is so of
    -- the bytes of the stream.
    abbrev pub Came : (SketchValues → List Update → Type 0)
        → (SketchValues → List ℕ → List Update → Type 0) → Type 0
    Came stored holds = (s : SketchValues) × IsOpened s × (added : List Update) × stored s added
        × ((bytes : List ℕ) → left ≡ Some bytes → holds s bytes added)

    -- What was loaded and read at this status, and what was stored.
    abbrev pub Watches : Option (List ℕ) → Option (List TalkEvent) → SketchStatus → Type 0
    Watches left' new statuses.Wrote = Came (λ s added. IsStored every s added old new)
        (λ s bytes added. IsFollowed s bytes left' added Ended)
    Watches left' new (statuses.BadSketch part offset) = (part ≡ 0)
        × (file : Option (List ℕ)) × Loads start old file × IsBadFile file offset
        × IsUntouched left' new
    Watches left' new statuses.Busy = IsUntouched left' new
    Watches left' new (statuses.BadStart records is_sum) = (s : SketchValues) × IsSketch s
        × Loads start old (Some (spelled_file s)) × (records ≡ s.tally.count)
        × IsNoStart at s is_sum × IsUntouched left' new
    Watches left' new (statuses.Behind number) = Came (λ s added. (added ≡ []) × GoesOn old new [])
        (λ s bytes added. IsBehind s bytes left' number Ended)
    Watches left' new (statuses.BadStream number why) =
        Came (λ s added. IsStored every s added old new)
        (λ s bytes added. IsBad s bytes left' added number why)
    Watches left' new (statuses.ReadFault ports.First) =
        Came (λ s added. IsStored every s added old new)
        (λ s bytes added. IsRead s bytes left' added (Stopped faults.ReadFault))
    Watches left' new (statuses.ReadFault ports.Sketch) = IsUntouched left' new
    Watches left' new (statuses.WriteFault ports.Sketch) =
        Came (λ s added. IsCut every s added old new)
        (λ s bytes added. (pause : Pause) × IsRead s bytes left' added pause)
    Watches left' new statuses.OutOfMemory = IsUntouched left' new
        ⊎ Came (λ s added. IsStored every s added old new)
        (λ s bytes added. IsRead s bytes left' added (Stopped faults.OutOfMemory))
        ⊎ Came (λ s added. IsCut every s added old new)
        (λ s bytes added. (pause : Pause) × IsRead s bytes left' added pause)
    Watches left' new _ = ⊥

-- ---- crashes

-- this content is one of the files of these numbers
abbrev pub IsOneOf : (ℕ → List ℕ → Type 0) → List ℕ → Option (List ℕ) → Type 0
IsOneOf is_file counts content = (count : ℕ) × (file : List ℕ) × Contains counts count
    × is_file count file × (content ≡ Some file)

-- It is a file that the call stored: that of the sketch that was loaded, with the first so many of
-- the records that were added, at a number at which it was due.
abbrev pub IsOwnFile : Option ℕ → Option (List ℕ) → Option (List TalkEvent) → Option (List ℕ)
    → Type 0
IsOwnFile every start talk content = (s : SketchValues)
    × Loads start talk (Some (spelled_file s)) × (added : List Update)
    × IsOneOf (IsFileAt s added) (due every (length added)) content
