-- Steps of an ask behind its opening.
use Rattle.std.specs.Prelude.{◌≡◌, ◌⊎◌, ℕ, ◌<◌, ◌≤◌, false, IsTrue, ⊤, List, [], ◌∷◌, length, map}
use Rattle.std.specs.Prelude.{None, Some, Result, Ok, Err, vec_capacity}
use Rattle.std.specs.declared.option.Option.{Option}
use Rattle.sip_ports.specs.Desk.{Loads}
use Rattle.sip_ports.specs.Ports.{GoesOn, SendsWhole}
use Rattle.sip_ports.specs.declared.port.TalkEvent.{TalkEvent}
use Rattle.sip_vector.specs.Answers.{pairs}
use Rattle.sip_vector.specs.declared.tally.Tally.{Tally}
use Rattle.sip_verifier.specs.Reports.{line}
use Rattle.sip_verifier.specs.runs.Askers.{IsFirst, Remaining, behind}
use Rattle.sip_above.specs.Questions.{query_of}
use Rattle.sip_questions.specs.Questions.{version_for}
use Rattle.sip_questions.specs.Sittings.{ask_at, remaining_of}
use Rattle.sip_questions.specs.declared.question.Question.{Question}
use Rattle.sip_questions.specs.declared.question.Question.TheVariants as questions
use Rattle.sip_sketch.specs.Loaded.{IsBadFile}
use Rattle.sip_sketch.specs.Sketches.{IsSketch, SketchValues, size_of, spelled_file}
use Rattle.sip_ask.specs.Asking.{IsStored, IsStoredInPart, steps_of}
use Rattle.sip_ask.specs.Choosing.{choice, is_idle}
use Rattle.sip_ask.specs.Turns.{block_at}
use Rattle.sip_ask.specs.declared.asking.Asking.{Asking}
use Rattle.sip_ask.specs.declared.status.AskPort.TheVariants as ports
use Rattle.sip_ask.specs.declared.status.AskStatus.{AskStatus}
use Rattle.sip_ask.specs.declared.status.AskStatus.TheVariants as statuses

-- the sketch of the file was loaded, or why not
abbrev pub LoadsSketch : Option (List ℕ) → Option (List TalkEvent) → Result SketchValues AskStatus
    → Type 0
LoadsSketch start talk (Ok s) = IsSketch s × Loads start talk (Some (spelled_file s))
LoadsSketch start talk (Err (statuses.BadSketch offset)) =
    (file : Option (List ℕ)) × Loads start talk file × IsBadFile file offset
LoadsSketch start talk (Err statuses.Busy) = ⊤
LoadsSketch start talk (Err statuses.ReadFault) = ⊤
LoadsSketch start talk (Err statuses.OutOfMemory) = ⊤
LoadsSketch start talk (Err _) = ⊥

-- the status of a call whose steps came to this
abbrev pub status_of : Result (Unit {0}) AskStatus → AskStatus
status_of (Ok _) = statuses.Accepted
status_of (Err status) = status

-- ---- what was stored

-- the sketch with the seat at this place used was stored, or a shorter front of that was done
abbrev pub IsMarked : SketchValues → ℕ → Option (List TalkEvent) → Option (List TalkEvent)
    → Result (Unit {0}) AskStatus → Type 0
IsMarked s place old new (Ok _) = GoesOn old new (steps_of s place)
IsMarked s place old new (Err (statuses.WriteFault ports.Sketch)) = IsStoredInPart s place old new
IsMarked s place old new (Err statuses.OutOfMemory) = IsStoredInPart s place old new
IsMarked s place old new (Err _) = ⊥

-- for a question that takes this seat it was stored, if it was, before anything was said; for one
-- that takes none nothing was
abbrev pub StoresSeat : SketchValues → Option ℕ → Option (List TalkEvent) → Option (List TalkEvent)
    → Result (Unit {0}) AskStatus → Type 0
StoresSeat s None old new result = new ≡ old
StoresSeat s (Some place) old new (Ok _) = IsStored s place old new
StoresSeat s (Some place) old new (Err _) =
    IsStoredInPart s place old new ⊎ IsStored s place old new

-- ---- a question that is answered without being asked

-- it asks for large entries, which are larger than all of a side: only such a question is
abbrev pub IsIdle : Question → Type 0
IsIdle question = (t : Tally) × IsTrue (is_idle t question)

-- its line was written, which says that there is no entry, or a shorter front of it
abbrev pub SaysNone : Question → Option (List TalkEvent) → Option (List TalkEvent)
    → Result (Unit {0}) AskStatus → Type 0
SaysNone (questions.Query query) blank full result =
    SendsWhole blank full result (line query (pairs []))
SaysNone (questions.Large large) blank full result =
    SendsWhole blank full result (line (query_of large) (pairs []))
SaysNone _ blank full result = ⊥

-- only the report stopped
abbrev pub IsReportStop : AskStatus → Type 0
IsReportStop (statuses.WriteFault ports.Report) = ⊤
IsReportStop statuses.OutOfMemory = ⊤
IsReportStop _ = ⊥

-- ---- what is left to be asked

-- the questions that take seats, each with the challenges of its own
abbrev pub asks_at : SketchValues → List Question → List (Option ℕ) → List (Question × List ℕ)
asks_at s [] places = []
asks_at s (question ∷ asked) [] = []
asks_at s (question ∷ asked) (None ∷ places) = asks_at s asked places
asks_at s (question ∷ asked) (Some place ∷ places) =
    (question, block_at place s.seats) ∷ asks_at s asked places

-- what remains behind a question: where it takes a seat, all but the first
abbrev pub behind_turn : Option ℕ → Remaining Question → Remaining Question
behind_turn None left = left
behind_turn (Some place) left = behind false left

-- there is room for the file, and nothing failed so far
pub record IsLive (a : Asking) : Type 0 where
  pub room : size_of a.sketch ≤ vec_capacity a.file
  pub live : a.asker.spent ≡ false

-- this question is the next, on the seat at this place; or it takes none
abbrev pub IsNext : Asking → Question → Option ℕ → Type 0
IsNext a question None = IsIdle question
IsNext a question (Some place) = (place < length a.sketch.seats)
    × IsFirst (remaining_of a.asker) (question, block_at place a.sketch.seats)

-- these questions are to be asked, on the seats that they take, and nothing was done so far
pub record StandsReady (asked : List Question) (places : List (Option ℕ)) (a : Asking)
    : Type 0 where
  pub is : IsSketch a.sketch
  pub chosen : choice a.sketch asked ≡ Ok places
  pub version : a.asker.version ≡ version_for a.sketch.depth asked
  pub depth : a.asker.depth ≡ a.sketch.depth
  pub left : map ask_at a.asker.left ≡ asks_at a.sketch asked places
  pub ready : IsLive a
