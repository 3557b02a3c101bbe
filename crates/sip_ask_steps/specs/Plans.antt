-- What is asked of a sketch without a link, and how that may end.
use Rattle.std.specs.Prelude.{◌≡◌, ℕ, suc, List, ◌∷◌, ◌++◌, length, Ok, Some, None}
use Rattle.std.specs.declared.option.Option.{Option}
use Rattle.sip_ports.specs.Desk.{Loads}
use Rattle.sip_ports.specs.declared.port.TalkEvent.{TalkEvent}
use Rattle.sip_vector.specs.declared.update.Update.{Update}
use Rattle.sip_wire.specs.declared.version.Version.{Version}
use Rattle.sip_verifier.specs.runs.Manners.{Manner}
use Rattle.sip_questions.specs.Questions.{Answered, asking, version_for}
use Rattle.sip_questions.specs.declared.question.Question.{Question}
use Rattle.sip_sketch.specs.Sketches.{IsSketch, SketchValues, spelled_file}
use Rattle.sip_ask.specs.Asking.{Asks}
use Rattle.sip_ask.specs.Choosing.{choice}
use Rattle.sip_ask.specs.Turns.{held_by, held_heard, recall_sent}
use Rattle.sip_ask.specs.declared.status.AskStatus.{AskStatus}

-- a sketch as it was before, the questions that are asked of it, and the places of their seats
pub record Plan : Type 0 where
  pub sketch : SketchValues
  pub asked : List Question
  pub places : List (Option ℕ)

abbrev pub plan_of : SketchValues → List Question → List (Option ℕ) → Plan
plan_of s asked places = record { sketch = s; asked = asked; places = places }

-- the sketch is one that a file can have, and the questions take these seats of it
pub record IsPlan (p : Plan) : Type 0 where
  pub is : IsSketch p.sketch
  pub chosen : choice p.sketch p.asked ≡ Ok p.places

-- the version of the talk
abbrev pub version_of : Plan → Version
version_of p = version_for p.sketch.depth p.asked

-- how questions are asked about a stream
abbrev pub manner_of : Plan → List Update → Manner Question Answered
manner_of p stream = asking (version_of p) p.sketch.depth stream

-- what is sent first, and what the other end says then that holds what the sketch is of
abbrev pub recalled : Plan → List TalkEvent
recalled p = recall_sent (version_of p) p.sketch.depth p.sketch.tally.count

abbrev pub opened : Plan → List TalkEvent
opened p = recalled p ++ held_heard (version_of p) (held_by p.sketch.tally)

-- The question with this number, and the place of its seat; numbers begin at 1.
pub record IsNext (p : Plan) (number : ℕ) (question : Question) (place : Option ℕ)
    : Type 0 where
  pub front : List Question
  pub more : List Question
  pub asked : p.asked ≡ front ++ question ∷ more
  pub taken : List (Option ℕ)
  pub rest : List (Option ℕ)
  pub places : p.places ≡ taken ++ place ∷ rest
  pub paired : length taken ≡ length front
  pub counted : number ≡ suc (length front)

-- Over a desk whose file has this sketch, asking may end with this status where it did this, behind
-- any talk. Of the report nothing is told: whoever has the answers writes it.
abbrev pub Ends : Plan → List TalkEvent → AskStatus → Type 0
Ends p events status = (start : Option (List ℕ)) (talk : List TalkEvent)
    → Loads start (Some talk) (Some (spelled_file p.sketch))
    → Asks p.asked start (Some talk) (Some (talk ++ events)) None None status
