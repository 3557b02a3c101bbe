-- What a call did that asks questions of the sketch of a desk.
use Rattle.std.specs.Prelude.{◌≡◌, ◌≢◌, ◌⊎◌, ℕ, suc, ◌<◌, List, [], ◌∷◌, ◌++◌, length, take}
use Rattle.std.specs.Prelude.{Some, None, Result, Ok, Err, IsTrue}
use Rattle.std.specs.declared.option.Option.{Option}
use Rattle.sip_ports.specs.Desk.{IsOfLink, Loads, steps}
use Rattle.sip_ports.specs.Ports.{GoesOn, ins, outs}
use Rattle.sip_ports.specs.declared.port.TalkEvent.{TalkEvent}
use Rattle.sip_ports.specs.declared.port.TalkEvent.TheVariants.{Ended}
use Rattle.sip_vector.specs.Answers.{pairs}
use Rattle.sip_vector.specs.declared.update.Update.{Update}
use Rattle.sip_wire.specs.Faults.{IsOfBytes}
use Rattle.sip_wire.specs.Reading.{read_frame}
use Rattle.sip_wire.specs.Spelling.{fits}
use Rattle.sip_wire.specs.declared.kind.Place.TheVariants as wire_places
use Rattle.sip_wire.specs.declared.message.Held.{Held}
use Rattle.sip_wire.specs.declared.message.Message.TheVariants as messages
use Rattle.sip_wire.specs.declared.message.WireFault.{WireFault}
use Rattle.sip_wire.specs.declared.message.WireFault.TheVariants as faults
use Rattle.sip_wire.specs.declared.version.Version.{Version}
use Rattle.sip_replies.specs.Talks.{IsPrefix}
use Rattle.sip_verifier.specs.Talks.{bye_sent}
use Rattle.sip_verifier.specs.declared.status.Port.TheVariants as run_ports
use Rattle.sip_verifier.specs.declared.status.Status.{Status}
use Rattle.sip_verifier.specs.declared.status.Status.TheVariants as runs
use Rattle.sip_verifier.specs.runs.Manners.{Manner}
use Rattle.sip_verifier.specs.runs.Progress.{Checks}
use Rattle.sip_questions.specs.Questions.{Answered, asking, to_large, to_query, version_for}
use Rattle.sip_questions.specs.declared.question.Question.{Question}
use Rattle.sip_questions.specs.declared.question.Question.TheVariants as questions
use Rattle.sip_sketch.specs.Loaded.{IsBadFile}
use Rattle.sip_sketch.specs.Sketches.{IsSketch, SketchValues, spelled_file}
use Rattle.sip_sketch.specs.Standing.{Stands}
use Rattle.sip_ask.specs.Choosing.{choice}
use Rattle.sip_ask.specs.Marking.{mark}
use Rattle.sip_ask.specs.Turns.{IsFarewell, block_at, held_by, held_heard, recall_sent}
use Rattle.sip_ask.specs.declared.status.AskPort.TheVariants as ports
use Rattle.sip_ask.specs.declared.status.AskStatus.{AskStatus}
use Rattle.sip_ask.specs.declared.status.AskStatus.TheVariants as statuses

-- the sketch behind a question that takes this seat, or none
abbrev pub marked_by : Option ℕ → SketchValues → SketchValues
marked_by None s = s
marked_by (Some place) s = mark place s

-- the answer that there is no entry, in the form that a question's kind has
abbrev pub none_of : Question → Answered
none_of (questions.Large large) = to_large []
none_of _ = to_query (pairs [])

-- ---- what was stored

-- what replaces the file where a question takes the seat at this place: the sketch with that used
abbrev pub steps_of : SketchValues → ℕ → List TalkEvent
steps_of s place = steps (spelled_file (mark place s))

module _ (s : SketchValues) (place : ℕ) (old new : Option (List TalkEvent)) where
  -- all steps of it were taken, so that no crash leaves the seat unused, and then only the link was
  -- used
  pub record IsStored : Type 0 where
    pub said : List TalkEvent
    pub link : IsOfLink said
    pub talk : GoesOn old new (steps_of s place ++ said)

  -- a shorter front of them was taken, and nothing was said
  pub record IsStoredInPart : Type 0 where
    pub count : ℕ
    pub short : count < length (steps_of s place)
    pub talk : GoesOn old new (take count (steps_of s place))

-- Whatever the sketch is of: for each question in order that takes a seat the file with that seat
-- used was stored, and then only was something said; it may have stopped at any of them. Behind the
-- last one a front of the farewell was said.
abbrev pub StoresFirst : Version → SketchValues → List (Option ℕ) → Option (List TalkEvent)
    → Option (List TalkEvent) → Type 0
StoresFirst version s [] old new =
    (said : List TalkEvent) × IsFarewell version said × GoesOn old new said
StoresFirst version s (None ∷ places) old new = StoresFirst version s places old new
StoresFirst version s (Some place ∷ places) old new =
    IsStoredInPart s place old new ⊎ IsStored s place old new
    ⊎ ((mid : Option (List TalkEvent)) × IsStored s place old mid
    × StoresFirst version (mark place s) places mid new)

-- ---- one question, which has this number, in a manner of asking, of this sketch

module _ (m : Manner Question Answered) (s : SketchValues) (number : ℕ) (question : Question)
    (old new blank full : Option (List TalkEvent)) where
  -- the sketch with its seat used was stored, and then this came of the question
  pub record IsAskedOn (place : ℕ) (result : Result (Unit {0}) Status) : Type 0 where
    pub mid : Option (List TalkEvent)
    pub stored : GoesOn old mid (steps_of s place)
    pub checks : Checks m question (block_at place s.seats) number mid new blank full result

  -- storing it stopped before its last step, and nothing was said or written
  abbrev pub IsUnmarked : ℕ → Type 0
  IsUnmarked place = IsStoredInPart s place old new × GoesOn blank full []

  -- nothing is asked: the line says that there is no entry, or a front of it was written
  abbrev pub IsLined : Type 0
  IsLined = GoesOn old new [] × GoesOn blank full (outs (m.line question (none_of question)))

  abbrev pub IsLinedInPart : Type 0
  IsLinedInPart = GoesOn old new [] × (part : List ℕ)
      × IsPrefix part (m.line question (none_of question)) × GoesOn blank full (outs part)

  -- what came of it
  abbrev pub Came : Option ℕ → Result (Unit {0}) AskStatus → Type 0
  Came None (Ok _) = IsLined
  Came None (Err (statuses.WriteFault ports.Report)) = IsLinedInPart
  Came None (Err statuses.OutOfMemory) = IsLinedInPart
  Came None (Err _) = ⊥
  Came (Some place) (Ok done) = IsAskedOn place (Ok done)
  Came (Some place) (Err (statuses.Rejected k round reason)) =
      IsAskedOn place (Err (runs.Rejected k round reason))
  Came (Some place) (Err statuses.PeerFault) = IsAskedOn place (Err runs.PeerFault)
  Came (Some place) (Err (statuses.WriteFault ports.Report)) =
      IsAskedOn place (Err (runs.WriteFault run_ports.Report))
  Came (Some place) (Err (statuses.WriteFault ports.Sketch)) = IsUnmarked place
  Came (Some place) (Err statuses.OutOfMemory) =
      IsUnmarked place ⊎ IsAskedOn place (Err runs.OutOfMemory)
  Came (Some place) (Err _) = ⊥

-- ---- all of them

-- the farewell was sent, or a shorter front of it
abbrev pub SaysBye : Version → Option (List TalkEvent) → Option (List TalkEvent)
    → Result (Unit {0}) AskStatus → Type 0
SaysBye version old new (Ok _) = GoesOn old new (bye_sent version)
SaysBye version old new (Err statuses.PeerFault) = (n : ℕ) × (n < length (bye_sent version))
    × GoesOn old new (take n (bye_sent version))
SaysBye version old new (Err statuses.OutOfMemory) = (n : ℕ) × (n < length (bye_sent version))
    × GoesOn old new (take n (bye_sent version))
SaysBye version old new (Err _) = ⊥

-- Each question was done, the first of which has this number, and then the farewell was said; or it
-- stopped at one of them.
abbrev pub AsksAll : Version → Manner Question Answered → SketchValues → ℕ → List Question
    → List (Option ℕ) → Option (List TalkEvent) → Option (List TalkEvent)
    → Option (List TalkEvent) → Option (List TalkEvent) → Result (Unit {0}) AskStatus → Type 0
AsksAll version m s number [] places old new blank full result =
    SaysBye version old new result × GoesOn blank full []
AsksAll version m s number (question ∷ more) [] old new blank full result = ⊥
AsksAll version m s number (question ∷ more) (place ∷ places) old new blank full result =
    ((mid half : Option (List TalkEvent))
    × Came m s number question old mid blank half place (Ok tt)
    × AsksAll version m (marked_by place s) (suc number) more places mid new half full result)
    ⊎ ((status : AskStatus) × (result ≡ Err status)
    × Came m s number question old new blank full place (Err status))

-- ---- a call

-- the status as what asking came to
abbrev pub as_result : AskStatus → Result (Unit {0}) AskStatus
as_result statuses.Accepted = Ok tt
as_result status = Err status

-- over a file that started so, a desk and a report

module _ (asked : List Question) (start : Option (List ℕ))
    (old new blank full : Option (List TalkEvent)) where
  -- nothing was said, stored or written
  abbrev pub IsUntouched : Type 0
  IsUntouched = GoesOn old new [] × GoesOn blank full []

  abbrev pub IsLoaded : SketchValues → Type 0
  IsLoaded s = IsSketch s × Loads start old (Some (spelled_file s))

  -- a sketch was loaded of which the questions may not be asked
  abbrev pub IsRefused : AskStatus → Type 0
  IsRefused status = (s : SketchValues) × IsLoaded s × (choice s asked ≡ Err status) × IsUntouched

  -- a sketch was loaded of which they may, in this version, and nothing but this was said
  abbrev pub Opens : (Version → SketchValues → List TalkEvent → Type 0) → Type 0
  Opens said = (s : SketchValues) × (places : List (Option ℕ)) × IsLoaded s
      × (choice s asked ≡ Ok places) × (events : List TalkEvent)
      × said (version_for s.depth asked) s events × GoesOn old new events × GoesOn blank full []

  -- a front of the opening was sent, and all of it where more came
  abbrev pub IsCutOpening : Version → SketchValues → List TalkEvent → Type 0
  IsCutOpening version s events = IsPrefix events (recall_sent version s.depth s.tally.count)
      ⊎ ((bytes : List ℕ) × (events ≡ recall_sent version s.depth s.tally.count ++ ins bytes)
      × (read_frame version wire_places.Held bytes ≡ Err faults.Closed))

  -- then the link ended in the frame that was due
  abbrev pub IsClosed : Version → SketchValues → List TalkEvent → Type 0
  IsClosed version s events = (bytes : List ℕ)
      × (events ≡ recall_sent version s.depth s.tally.count ++ ins bytes ++ Ended ∷ [])
      × (read_frame version wire_places.Held bytes ≡ Err faults.Closed)

  -- or it has another spelling
  abbrev pub IsBadHeld : Version → SketchValues → List TalkEvent → Type 0
  IsBadHeld version s events = (bytes : List ℕ)
      × (events ≡ recall_sent version s.depth s.tally.count ++ ins bytes)
      × (fault : WireFault) × IsOfBytes fault
      × (read_frame version wire_places.Held bytes ≡ Err fault)

  -- or the other end holds something else
  abbrev pub IsOutOfStep : Held → Held → Version → SketchValues → List TalkEvent → Type 0
  IsOutOfStep held kept version s events =
      (events ≡ recall_sent version s.depth s.tally.count ++ held_heard version held)
      × IsTrue (fits version (messages.Held held))
      × (kept ≡ held_by s.tally) × (held ≢ kept)

  -- The other end holds what the sketch is of, and then all questions were asked in order, each
  -- behind the file in which its seat is used: about any stream that the sketch stands for.
  pub record IsInTalk (status : AskStatus) : Type 0 where
    pub s : SketchValues
    pub places : List (Option ℕ)
    pub loaded : IsLoaded s
    pub chosen : choice s asked ≡ Ok places
    pub mid : Option (List TalkEvent)
    pub opened : GoesOn old mid (recall_sent (version_for s.depth asked) s.depth s.tally.count
        ++ held_heard (version_for s.depth asked) (held_by s.tally))
    pub stores : StoresFirst (version_for s.depth asked) s places mid new
    pub asks : (stream : List Update) → Stands stream s
        → AsksAll (version_for s.depth asked) (asking (version_for s.depth asked) s.depth stream)
        s 1 asked places mid new blank full (as_result status)

  -- what was loaded, said, stored and written at this status
  abbrev pub Asks : AskStatus → Type 0
  Asks (statuses.BadSketch offset) = (file : Option (List ℕ)) × Loads start old file
      × IsBadFile file offset × IsUntouched
  Asks statuses.Busy = IsUntouched
  Asks statuses.ReadFault = IsUntouched
  Asks statuses.NotWhole = IsRefused statuses.NotWhole
  Asks (statuses.Unfit query) = IsRefused (statuses.Unfit query)
  Asks (statuses.Signed query) = IsRefused (statuses.Signed query)
  Asks (statuses.NoSeat query) = IsRefused (statuses.NoSeat query)
  Asks (statuses.TooWide query) = IsRefused (statuses.TooWide query)
  Asks (statuses.TooHigh query) = IsRefused (statuses.TooHigh query)
  Asks (statuses.OutOfStep held kept) = Opens (IsOutOfStep held kept)
  Asks statuses.BadFrame = Opens IsBadHeld
  Asks statuses.PeerClosed = Opens IsClosed
  Asks statuses.PeerFault = Opens IsCutOpening ⊎ IsInTalk statuses.PeerFault
  Asks statuses.OutOfMemory =
      IsUntouched ⊎ Opens IsCutOpening ⊎ IsInTalk statuses.OutOfMemory
  Asks (statuses.Rejected query round reason) =
      IsInTalk (statuses.Rejected query round reason)
  Asks (statuses.WriteFault port) = IsInTalk (statuses.WriteFault port)
  Asks statuses.Accepted = IsInTalk statuses.Accepted
