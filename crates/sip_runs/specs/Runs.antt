-- A run without a link: what is asked of a stream, what was said so far, and what is due.
use Rattle.std.specs.Prelude.{◌≡◌, ◌<◌, ◌≤◌, ◌*◌, ◌%◌, ℕ, Bool, true, false, All, List, []}
use Rattle.std.specs.Prelude.{◌∷◌, ◌++◌, length, take, drop, Some, None, Result, Ok, Err}
use Rattle.sip_ports.specs.declared.port.TalkEvent.{TalkEvent}
use Rattle.sip_vector.specs.declared.update.Update.{Update}
use Rattle.sip_vector.specs.Streams.{IsLegal}
use Rattle.sip_wire.specs.declared.message.Message.TheVariants as messages
use Rattle.sip_wire.specs.declared.version.Version.{Version}
use Rattle.sip_wire.specs.Spelling.{spelling}
use Rattle.sip_wire.specs.Table.{most_queries, most_rows}
use Rattle.sip_wire.specs.Versions.{deepest, number_of}
use Rattle.sip_stream.specs.Records.{update_fault}
use Rattle.sip_verifier.specs.Draws.{challenges_of}
use Rattle.sip_verifier.specs.Feeding.{due_at_end}
use Rattle.sip_verifier.specs.Running.{block_of}
use Rattle.sip_verifier.specs.Talks.{opening_sent, stream_sent}
use Rattle.sip_questions.specs.declared.question.Question.{Question}
use Rattle.sip_runs.specs.declared.measure.BadUpdate.{BadUpdate}
use Rattle.sip_runs.specs.declared.following.Following.{Following}
use Rattle.sip_runs.specs.declared.seat.RunSeat.{RunSeat}
use Rattle.sip_runs.specs.declared.start.RunStart.{RunStart}
use Rattle.sip_runs.specs.declared.start.RunStart.TheVariants as starts
use Rattle.sip_runs.specs.declared.to_ask.ToAsk.{ToAsk}
use Rattle.sip_runs.specs.declared.step.Step.{Step}
use Rattle.sip_runs.specs.declared.step.Step.TheVariants as steps
use Rattle.sip_runs.specs.Measures.{IsMeasured}
use Rattle.sip_runs.specs.Plans.{CanBegin, Plan, StandsAgainst, plan_of}
use Rattle.sip_runs.specs.Seats.{IsSeated, blocks_of, questions_of}

-- ---- what is due

abbrev pub is_due : Step → Bool
is_due steps.Opening = true
is_due steps.Taking = false
is_due steps.Full = true
is_due steps.Ending = true
is_due steps.Ended = false

abbrev pub is_taking : Step → Bool
is_taking steps.Taking = true
is_taking _ = false

abbrev pub is_ended : Step → Bool
is_ended steps.Ended = true
is_ended _ = false

-- the step behind the sending of what is due
abbrev pub step_after : Step → Step
step_after steps.Ending = steps.Ended
step_after _ = steps.Taking

-- the bytes that are to be sent
abbrev pub due_at : Step → Version → ℕ → List Update → List ℕ
due_at steps.Opening version depth waiting =
    spelling version (messages.Open (number_of version) depth)
due_at steps.Taking version depth waiting = []
due_at steps.Full version depth waiting =
    spelling version (messages.Updates (record { items = waiting }))
due_at steps.Ending version depth waiting = due_at_end version waiting
due_at steps.Ended version depth waiting = []

abbrev pub due_bytes : Following → List ℕ
due_bytes f = due_at f.step f.version f.measure.depth f.feed.value.waiting

-- ---- the talk so far

-- What was said, where these updates of the stream were sent and those wait: nothing yet; the
-- opening, and a frame for each 512; or all that a run says of the stream before its questions.
abbrev pub Said : Version → ℕ → List Update → List Update → List TalkEvent → Step → Type 0
Said version depth sent waiting events steps.Opening =
    (events ≡ []) × (sent ≡ []) × (waiting ≡ [])
Said version depth sent waiting events steps.Taking =
    (events ≡ opening_sent version depth sent) × (length sent % most_rows ≡ 0)
    × (length waiting < most_rows)
Said version depth sent waiting events steps.Full =
    (events ≡ opening_sent version depth sent) × (length sent % most_rows ≡ 0)
    × (length waiting ≡ most_rows)
Said version depth sent waiting events steps.Ending =
    (events ≡ opening_sent version depth sent) × (length sent % most_rows ≡ 0)
    × (length waiting < most_rows)
Said version depth sent waiting events steps.Ended =
    (events ≡ stream_sent version depth sent) × (waiting ≡ [])

-- This stream was handed over, and these events are what was said for it. What was not sent yet
-- waits, and the seats stand for what was sent.
pub record IsFollowed (p : Plan) (stream : List Update) (events : List TalkEvent)
    (f : Following) : Type 0 where
  pub version : f.version ≡ p.version
  pub depth : f.measure.depth ≡ p.depth
  pub shallow : p.depth ≤ deepest p.version
  pub questions : questions_of f.seats.items ≡ p.questions
  pub at_blocks : blocks_of f.seats.items ≡ p.blocks
  pub few : length p.questions ≤ most_queries
  pub measured : IsMeasured stream f.measure
  pub sent : List Update
  pub order : stream ≡ sent ++ f.feed.value.waiting
  pub in_version : f.feed.value.version ≡ p.version
  pub seated : All (IsSeated p.version p.depth sent) f.seats.items
  pub said : Said p.version p.depth sent f.feed.value.waiting events f.step

-- It was begun, and nothing but its own calls changed it.
abbrev pub HasBegun : Following → Type 0
HasBegun f = (p : Plan) × (stream : List Update) × (events : List TalkEvent)
    × IsFollowed p stream events f

-- ---- how it begins

-- The run of these questions at these challenges, before anything is said; or the first that stands
-- against it. Memory may be refused.
abbrev pub IsGiven : ℕ → List Question → List ℕ → Result Following RunStart → Type 0
IsGiven depth questions challenges (Ok f) =
    CanBegin depth questions × IsFollowed (plan_of depth questions challenges) [] [] f
IsGiven depth questions challenges (Err starts.OutOfMemory) = CanBegin depth questions
IsGiven depth questions challenges (Err start) = StandsAgainst depth questions start

-- The same at the challenges that the seed gives, where it gives some.
abbrev pub Begins : ℕ → List Question → List ℕ → Result Following RunStart → Type 0
Begins depth questions seed (Ok f) = CanBegin depth questions × (challenges : List ℕ)
    × (challenges_of (depth * length questions) seed ≡ Some challenges)
    × IsFollowed (plan_of depth questions challenges) [] [] f
Begins depth questions seed (Err starts.SeedSpent) =
    CanBegin depth questions × (challenges_of (depth * length questions) seed ≡ None)
Begins depth questions seed (Err starts.OutOfMemory) = CanBegin depth questions
Begins depth questions seed (Err start) = StandsAgainst depth questions start

-- ---- one more update, or more of them

-- the update comes behind the stream; or why it is not legal there, and its number
abbrev pub Takes : Plan → List Update → List TalkEvent → Update → Following → Following
    → Result (Unit {0}) BadUpdate → Type 0
Takes p stream events u old new (Ok _) = IsFollowed p (stream ++ u ∷ []) events new
Takes p stream events u old new (Err bad) = (new ≡ old) × (bad.at ≡ length stream)
    × (update_fault p.depth stream u ≡ Some bad.why)

-- So many of the updates come behind the stream: all of them, or as many as can before bytes are
-- due. Or the first that is not legal behind those before it stays out, and these come.
abbrev pub Feeds : Plan → List Update → List TalkEvent → List Update → Following
    → Result ℕ BadUpdate → Type 0
Feeds p stream events updates new (Ok taken) =
    IsFollowed p (stream ++ take taken updates) events new
Feeds p stream events updates new (Err bad) = (front : List Update) × (u : Update)
    × (more : List Update) × (updates ≡ front ++ u ∷ more)
    × IsFollowed p (stream ++ front) events new × (bad.at ≡ length (stream ++ front))
    × (update_fault p.depth (stream ++ front) u ≡ Some bad.why)

-- ---- what is left of it

-- what waited was sent: nothing waits, and the seats stand for the stream
pub record IsPassed (p : Plan) (stream : List Update) (f : Following) : Type 0 where
  pub version : f.version ≡ p.version
  pub depth : f.measure.depth ≡ p.depth
  pub questions : questions_of f.seats.items ≡ p.questions
  pub at_blocks : blocks_of f.seats.items ≡ p.blocks
  pub measured : IsMeasured stream f.measure
  pub none : f.feed.value.waiting ≡ []
  pub in_version : f.feed.value.version ≡ p.version
  pub seated : All (IsSeated p.version p.depth stream) f.seats.items

-- The questions of the plan in their order, at its challenges, each with the running numbers of
-- this stream, which is legal.
pub record IsToBeAsked (p : Plan) (stream : List Update) (t : ToAsk) : Type 0 where
  pub version : t.version ≡ p.version
  pub depth : t.depth ≡ p.depth
  pub shallow : p.depth ≤ deepest p.version
  pub questions : questions_of t.seats.items ≡ p.questions
  pub at_blocks : blocks_of t.seats.items ≡ p.blocks
  pub legal : IsLegal p.depth stream
  pub seated : All (IsSeated p.version p.depth stream) t.seats.items

-- what is asked behind the first question
abbrev pub behind_first : Plan → Plan
behind_first p = record p { questions = drop 1 p.questions; blocks = drop 1 p.blocks }

-- the first question, at its challenges, with the running numbers of this stream
pub record IsFirstOf (p : Plan) (stream : List Update) (s : RunSeat) : Type 0 where
  pub question : p.questions ≡ s.question ∷ drop 1 p.questions
  pub block : p.blocks ≡ block_of s.running ∷ drop 1 p.blocks
  pub seated : IsSeated p.version p.depth stream s
