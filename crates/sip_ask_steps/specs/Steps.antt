-- A sketch that is asked without a link: what was done so far, and what is wanted.
use Rattle.std.specs.Prelude.{◌≡◌, ◌⊎◌, ◌+◌, ◌<◌, ◌≤◌, ℕ, suc, Bool, true, false, ⊤, List, [], ◌∷◌}
use Rattle.std.specs.Prelude.{◌++◌, length, Option, None, Some, Result, Ok, Err, vec_capacity}
use Rattle.std.specs.Prelude.{IsTrue, if◌then◌else◌}
use Rattle.sip_ports.specs.Desk.{IsOfLink, steps}
use Rattle.sip_ports.specs.Ports.{ins}
use Rattle.sip_ports.specs.declared.port.TalkEvent.{TalkEvent}
use Rattle.sip_ports.specs.declared.port.TalkEvent.TheVariants.{Ended}
use Rattle.sip_vector.specs.declared.update.Entry.{Entry}
use Rattle.sip_vector.specs.declared.update.Update.{Update}
use Rattle.sip_wire.specs.Frames.{frame_bytes}
use Rattle.sip_wire.specs.Spelling.{asked, fits, spelling}
use Rattle.sip_wire.specs.Table.{most_queries}
use Rattle.sip_wire.specs.declared.kind.Place.TheVariants as wire_places
use Rattle.sip_wire.specs.declared.message.Held.{Held}
use Rattle.sip_wire.specs.declared.message.Message.TheVariants as messages
use Rattle.sip_wire.specs.declared.version.Version.{Version}
use Rattle.sip_verifier.specs.declared.asker.Unanswered.{Unanswered}
use Rattle.sip_verifier.specs.declared.asker.Unanswered.TheVariants as unanswered
use Rattle.sip_verifier.specs.declared.session.SessionFault.TheVariants as faults
use Rattle.sip_verifier.specs.runs.Asking.{IsInterrupted}
use Rattle.sip_questions.specs.Sittings.{stated}
use Rattle.sip_questions.specs.declared.asker.QuestionGiven.{QuestionGiven}
use Rattle.sip_questions.specs.declared.question.Question.{Question}
use Rattle.sip_sketch.specs.Sketches.{SketchValues, size_of, spelled_file}
use Rattle.sip_sketch.specs.Standing.{Stands}
use Rattle.sip_ask.specs.Asking.{AsksAll, StoresFirst, none_of, steps_of}
use Rattle.sip_ask.specs.Choosing.{choice, is_idle}
use Rattle.sip_ask.specs.Marking.{mark}
use Rattle.sip_ask.specs.Turns.{block_at, held_by, held_heard, recall_bytes}
use Rattle.sip_ask.specs.declared.status.AskPort.TheVariants as ports
use Rattle.sip_ask.specs.declared.status.AskStatus.{AskStatus}
use Rattle.sip_ask.specs.declared.status.AskStatus.TheVariants as statuses
use Rattle.sip_steps.specs.declared.question.QuestionAsking.{QuestionAsking}
use Rattle.sip_steps.specs.Questioned as questioned
use Rattle.sip_steps.specs.Questioned.{About, IsAskedOf, IsOf}
use Rattle.sip_ask_steps.specs.Plans.{Ends, IsPlan, Plan, manner_of, opened, plan_of, recalled}
use Rattle.sip_ask_steps.specs.Plans.{version_of}
use Rattle.sip_ask_steps.specs.Told.{IsTold}
use Rattle.sip_ask_steps.specs.declared.machine.SketchAsking.{SketchAsking}
use Rattle.sip_ask_steps.specs.declared.step.Step.{Step}
use Rattle.sip_ask_steps.specs.declared.step.Step.TheVariants as at
use Rattle.sip_ask_steps.specs.declared.turn.Turn.{Turn}
use Rattle.sip_ask_steps.specs.declared.turn.Turn.TheVariants as turns
use Rattle.sip_ask_steps.specs.declared.wants.Wants.{Wants}
use Rattle.sip_ask_steps.specs.declared.wants.Wants.TheVariants as wants

-- ---- the questions that are left

-- This question is asked on the seat at this place, and these events are a talk of it, as far as it
-- is: about each stream that the sketch stands for.
pub record IsSeated (p : Plan) (question : Question) (place : ℕ) (said : List TalkEvent)
    (a : QuestionAsking) : Type 0 where
  pub about : About
  pub version : about.version ≡ version_of p
  pub depth : about.depth ≡ p.sketch.depth
  pub asks : about.question ≡ question
  pub block : about.block ≡ block_at place p.sketch.seats
  pub stands : (stream : List Update) → Stands stream p.sketch → IsOf about stream
  pub talk : IsAskedOf about said a

-- the turn of a question that takes a seat, or is answered without being asked
abbrev pub IsTurn : Plan → Question → Option ℕ → Turn → Type 0
IsTurn p question None (turns.Idle given) =
    (stated [] given ≡ (question, none_of question)) × (is_idle p.sketch.tally question ≡ true)
IsTurn p question (Some place) (turns.Takes own a) =
    (own ≡ place) × (place < length p.sketch.seats) × IsSeated p question place [] a
IsTurn p question _ _ = ⊥

abbrev pub AreTurns : Plan → List Question → List (Option ℕ) → List Turn → Type 0
AreTurns p [] [] [] = ⊤
AreTurns p (question ∷ more) (place ∷ places) (turn ∷ left) =
    IsTurn p question place turn × AreTurns p more places left
AreTurns p _ _ _ = ⊥

-- These questions are left, the first of which has this number, and these events came before them;
-- the sketch has the seats of the others used. Whatever asking the rest comes to, asking all of
-- them comes to, from the opening on; and what the rest stores is stored before it is said.
pub record IsBefore (p : Plan) (events : List TalkEvent) (now : SketchValues) (number : ℕ)
    (left : List Question) (places : List (Option ℕ)) : Type 0 where
  pub front : List Question
  pub asked : p.asked ≡ front ++ left
  pub taken : List (Option ℕ)
  pub seats : p.places ≡ taken ++ places
  pub paired : length taken ≡ length front
  pub counted : number ≡ suc (length front)
  pub heard : IsTrue (fits (version_of p) (messages.Held (held_by p.sketch.tally)))
  pub depth : now.depth ≡ p.sketch.depth
  pub count : length now.seats ≡ length p.sketch.seats
  pub blocks : (k : ℕ) → block_at k now.seats ≡ block_at k p.sketch.seats
  pub asks : (stream : List Update) → Stands stream p.sketch → (talk : List TalkEvent)
      (new : Option (List TalkEvent)) (result : Result (Unit {0}) AskStatus)
      → AsksAll (version_of p) (manner_of p stream) now number left places
      (Some (talk ++ events)) new None None result
      → AsksAll (version_of p) (manner_of p stream) p.sketch 1 p.asked p.places
      (Some (talk ++ opened p)) new None None result
  pub stores : (talk : List TalkEvent) (new : Option (List TalkEvent))
      → StoresFirst (version_of p) now places (Some (talk ++ events)) new
      → StoresFirst (version_of p) p.sketch p.places (Some (talk ++ opened p)) new

-- ---- where it is, by the sketch as it is now, the number of the question at hand, and the turns
-- of those behind it

module _ (p : Plan) (sketch : SketchValues) (number : ℕ) (left : List Turn) where
  -- Nothing was asked yet.
  pub record IsFresh : Type 0 where
    pub same : sketch ≡ p.sketch
    pub none : number ≡ 0
    pub turns : AreTurns p p.asked p.places left

  -- what was done up to a question is done, and the others are left
  pub record IsPast (events : List TalkEvent) : Type 0 where
    pub asked : List Question
    pub places : List (Option ℕ)
    pub before : IsBefore p events sketch (suc number) asked places
    pub turns : AreTurns p asked places left

  -- A question is at hand, which takes the seat at this place: of the sketch as it was before,
  -- which has that seat used now.
  pub record IsAtHand (before : List TalkEvent) (question : Question) (place : ℕ)
      (now : SketchValues) : Type 0 where
    pub more : List Question
    pub places : List (Option ℕ)
    pub behind : IsBefore p before now number (question ∷ more) (Some place ∷ places)
    pub marked : sketch ≡ mark place now
    pub turns : AreTurns p more places left

  -- the file with its seat used is to be stored, and nothing was said of it
  pub record IsToStore (events : List TalkEvent) (file : List ℕ) (a : QuestionAsking) : Type 0 where
    pub question : Question
    pub place : ℕ
    pub now : SketchValues
    pub hand : IsAtHand events question place now
    pub is : file ≡ spelled_file sketch
    pub seated : IsSeated p question place [] a

  -- the file was stored, and then this was said of it
  pub record IsUnderWay (events : List TalkEvent) (a : QuestionAsking) : Type 0 where
    pub question : Question
    pub place : ℕ
    pub now : SketchValues
    pub before : List TalkEvent
    pub said : List TalkEvent
    pub all : events ≡ before ++ (steps_of now place ++ said)
    pub link : IsOfLink said
    pub hand : IsAtHand before question place now
    pub seated : IsSeated p question place said a

  -- and no answer is possible by it, about any stream that the sketch stands for
  pub record IsAsking (events : List TalkEvent) (a : QuestionAsking) : Type 0 where
    pub way : IsUnderWay events a
    pub unjudged : questioned.is_open_at a ≡ true
    pub waits : (stream : List Update) → Stands stream p.sketch
        → IsInterrupted (manner_of p stream) way.question (block_at way.place p.sketch.seats)
        (Some []) (Some way.said)

  -- what is so at each step: the version is that of the talk, and there is room for the file
  pub record IsKept (version : Version) (room : ℕ) : Type 0 where
    pub plan : IsPlan p
    pub same_version : version ≡ version_of p
    pub enough : size_of sketch ≤ room
    pub few : number + length left ≤ most_queries

-- ---- what is wanted

abbrev pub wants_at : Step → Wants
wants_at at.Opening = wants.Due
wants_at at.Hearing = wants.Waits
wants_at (at.Storing a) = wants.Stores
wants_at (at.Asking a) = if questioned.is_due_at a then wants.Due else wants.Waits
wants_at (at.Answered given a) = wants.Answers
wants_at (at.Idle given) = wants.Answers
wants_at at.Leaving = wants.Due
wants_at (at.Ended status) = wants.Ended status

-- the bytes that are to be sent
abbrev pub due_at : SketchAsking → Step → List ℕ
due_at m at.Opening = recall_bytes m.version m.sketch.depth m.sketch.tally.count
due_at m (at.Asking a) = questioned.due_of a
due_at m at.Leaving = spelling m.version messages.Bye
due_at m _ = []

abbrev pub due_of : SketchAsking → List ℕ
due_of m = due_at m m.step

-- bytes are to come
abbrev pub is_hearing_at : Step → Bool
is_hearing_at at.Hearing = true
is_hearing_at (at.Asking a) = questioned.is_hearing_at a
is_hearing_at _ = false

-- that the other end had closed, where bytes were to come
abbrev pub end_at : Step → List TalkEvent
end_at at.Hearing = Ended ∷ []
end_at (at.Asking a) = questioned.end_of a
end_at _ = []

-- the file that is to be stored, and what storing it does
abbrev pub file_at : SketchAsking → Step → List ℕ
file_at m (at.Storing a) = m.file.items
file_at m _ = []

abbrev pub stored_at : SketchAsking → Step → List TalkEvent
stored_at m (at.Storing a) = steps m.file.items
stored_at m _ = []

-- the answer to the question at hand, which has this number, and the pairs that are shown
abbrev pub answer_at : ℕ → Step → Option (ℕ × QuestionGiven)
answer_at number (at.Answered given a) = Some (number, given)
answer_at number (at.Idle given) = Some (number, given)
answer_at number _ = None

abbrev pub pairs_at : Step → List Entry
pairs_at (at.Answered given a) = questioned.pairs_of a
pairs_at _ = []

-- ---- all of it

abbrev pub Kept : Plan → SketchAsking → Type 0
Kept p m = IsKept p m.sketch m.number m.left.items m.version (vec_capacity m.file)

abbrev pub Fresh : Plan → SketchAsking → Type 0
Fresh p m = IsFresh p m.sketch m.number m.left.items

abbrev pub Past : Plan → List TalkEvent → SketchAsking → Type 0
Past p events m = IsPast p m.sketch m.number m.left.items events

-- what was done so far is what is done up to this step
abbrev pub At : Plan → List TalkEvent → SketchAsking → Step → Type 0
At p events m at.Opening = (events ≡ []) × (frame_bytes m.frame ≡ []) × Fresh p m
At p events m at.Hearing = (events ≡ recalled p ++ ins (frame_bytes m.frame))
    × (length (frame_bytes m.frame) < asked m.version wire_places.Held (frame_bytes m.frame))
    × Fresh p m
At p events m (at.Storing a) =
    IsToStore p m.sketch m.number m.left.items events m.file.items a
At p events m (at.Asking a) = IsAsking p m.sketch m.number m.left.items events a
At p events m (at.Answered given a) =
    IsTold p events (questioned.pairs_of a) m.number given × Past p events m
At p events m (at.Idle given) = IsTold p events [] m.number given × Past p events m
At p events m at.Leaving = Past p events m × (m.left.items ≡ [])
At p events m (at.Ended status) = Ends p events status

-- These events are what was done so far for this plan.
pub record IsDone (p : Plan) (events : List TalkEvent) (m : SketchAsking) : Type 0 where
  pub kept : Kept p m
  pub at : At p events m m.step

-- It was begun, and nothing but its own calls changed it.
abbrev pub HasBegun : SketchAsking → Type 0
HasBegun m = (p : Plan) × (events : List TalkEvent) × IsDone p events m

-- ---- between steps

-- it is at this step
abbrev pub at_step : SketchAsking → Step → SketchAsking
at_step m step = record m { step = step }

-- the next question is to have its turn
abbrev pub Turns : Plan → List TalkEvent → SketchAsking → Type 0
Turns p events m = Kept p m × Past p events m

-- what came of the question at hand is to be seen
abbrev pub SettlesAt : Plan → List TalkEvent → SketchAsking → Step → Type 0
SettlesAt p events m (at.Asking a) = IsUnderWay p m.sketch m.number m.left.items events a
SettlesAt p events m _ = ⊥

abbrev pub Settles : Plan → List TalkEvent → SketchAsking → Type 0
Settles p events m = Kept p m × SettlesAt p events m m.step

-- the other end was heard to hold this
abbrev pub Compares : Plan → List TalkEvent → Held → SketchAsking → Type 0
Compares p events held m = Kept p m × Fresh p m
    × (events ≡ recalled p ++ held_heard (version_of p) held)
    × IsTrue (fits (version_of p) (messages.Held held))

-- How asking ends where the question with this number has no answer for this. Without a link only
-- the first is met.
abbrev pub stopped_by : ℕ → Unanswered → AskStatus
stopped_by number (unanswered.Rejected round reason) = statuses.Rejected number round reason
stopped_by number (unanswered.Fault faults.PeerFault) = statuses.PeerFault
stopped_by number (unanswered.Fault _) = statuses.OutOfMemory

-- ---- how it begins

-- All of these questions may be asked, and nothing was done; or why they may not be. Memory may be
-- refused where they may.
abbrev pub Begins : SketchValues → List Question → Result SketchAsking AskStatus → Type 0
Begins s asked (Ok m) = (places : List (Option ℕ)) × IsDone (plan_of s asked places) [] m
Begins s asked (Err status) = (choice s asked ≡ Err status)
    ⊎ ((status ≡ statuses.OutOfMemory)
    × ((places : List (Option ℕ)) × (choice s asked ≡ Ok places)))

-- ---- how it goes on

-- what the turn of the next question wants, or the farewell
abbrev pub wants_of : List Turn → Wants
wants_of [] = wants.Due
wants_of (turns.Idle given ∷ left) = wants.Answers
wants_of (turns.Takes place a ∷ left) = wants.Stores

-- As which end of an ask it stands, where nothing more is done: as one that stopped for a fault of
-- the port that is next.
abbrev pub status_of : List Turn → AskStatus
status_of [] = statuses.PeerFault
status_of (turns.Idle given ∷ left) = statuses.WriteFault ports.Report
status_of (turns.Takes place a ∷ left) = statuses.WriteFault ports.Sketch

abbrev pub status_at : List Turn → Step → AskStatus
status_at left at.Opening = statuses.PeerFault
status_at left at.Hearing = statuses.PeerFault
status_at left (at.Storing a) = statuses.WriteFault ports.Sketch
status_at left (at.Asking a) = statuses.PeerFault
status_at left (at.Answered given a) = status_of left
status_at left (at.Idle given) = status_of left
status_at left at.Leaving = statuses.PeerFault
status_at left (at.Ended status) = status
