-- What is told of a question that was answered.
use Rattle.std.specs.Prelude.{◌≡◌, ◌⊎◌, ℕ, true, List, [], ◌++◌, Some, None}
use Rattle.sip_ports.specs.declared.port.TalkEvent.{TalkEvent}
use Rattle.sip_vector.specs.declared.update.Entry.{Entry}
use Rattle.sip_vector.specs.declared.update.Update.{Update}
use Rattle.sip_verifier.specs.runs.Askers.{IsGiven}
use Rattle.sip_questions.specs.Sittings.{stated}
use Rattle.sip_questions.specs.declared.asker.QuestionGiven.{QuestionGiven}
use Rattle.sip_questions.specs.declared.question.Question.{Question}
use Rattle.sip_sketch.specs.Sketches.{SketchValues}
use Rattle.sip_sketch.specs.Standing.{Stands}
use Rattle.sip_ask.specs.Asking.{none_of, steps_of}
use Rattle.sip_ask.specs.Choosing.{is_idle}
use Rattle.sip_ask.specs.Turns.{block_at}
use Rattle.sip_ask_steps.specs.Plans.{IsNext, Plan, manner_of}

module _ (p : Plan) (events : List TalkEvent) (entries : List Entry) (number : ℕ)
    (given : QuestionGiven) where
  -- The last that was done: a sketch with the seat of the question with this number used was
  -- stored, and then this was said of it. About each stream that the sketch stands for, the replies
  -- are accepted at the block of the seat, and state what is given.
  pub record IsToldOn : Type 0 where
    pub question : Question
    pub place : ℕ
    pub next : IsNext p number question (Some place)
    pub now : SketchValues
    pub before : List TalkEvent
    pub said : List TalkEvent
    pub all : events ≡ before ++ (steps_of now place ++ said)
    pub answer : (stream : List Update) → Stands stream p.sketch
        → IsGiven (manner_of p stream) (question, block_at place p.sketch.seats) (Some [])
        (Some said) (λ written. stated entries given ≡ (question, written))

  -- The question with this number asks for entries that are larger than all of a side together:
  -- there is none, and it takes no seat.
  pub record IsToldIdle : Type 0 where
    pub question : Question
    pub next : IsNext p number question None
    pub idle : is_idle p.sketch.tally question ≡ true
    pub none : stated entries given ≡ (question, none_of question)

  abbrev pub IsTold : Type 0
  IsTold = IsToldOn ⊎ IsToldIdle
