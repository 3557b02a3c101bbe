-- A question of any kind that is asked without a link: what its bytes so far are a talk of, in the
-- manner of questions.
use Rattle.std.specs.Prelude.{◌≡◌, ◌≤◌, ℕ, Bool, List, [], length, Option, None, Some, Result}
use Rattle.std.specs.Prelude.{Ok, Err, ℤ, not}
use Rattle.sip_ports.specs.declared.port.TalkEvent.{TalkEvent}
use Rattle.sip_vector.specs.declared.update.Entry.{Entry}
use Rattle.sip_vector.specs.declared.update.Update.{Update}
use Rattle.sip_wire.specs.declared.version.Version.{Version}
use Rattle.sip_replies.specs.declared.asking.AskStop.{AskStop}
use Rattle.sip_replies.specs.declared.check.Said.{Said}
use Rattle.sip_replies.specs.Following.{is_due, is_hearing, is_open}
use Rattle.sip_verifier.specs.declared.asker.Unanswered.{Unanswered}
use Rattle.sip_verifier.specs.declared.running.Running.{Running}
use Rattle.sip_verifier.specs.inside.Judging as judging
use Rattle.sip_verifier.specs.QuerySeats.{RunningNumbers, RunsOn, root_is}
use Rattle.sip_verifier.specs.Running.{block_of, numbers_of}
use Rattle.sip_verifier.specs.runs.Askers.{Asks}
use Rattle.sip_verifier.specs.runs.Asking.{IsInterrupted}
use Rattle.sip_lookup.specs.declared.answer.LookAnswer.{LookAnswer}
use Rattle.sip_lookup.specs.declared.lookup.Lookup.{Lookup}
use Rattle.sip_above.specs.declared.large.Large.{Large}
use Rattle.sip_above.specs.inside.Judging as large_sittings
use Rattle.sip_moments.specs.declared.moment.Moment.{Moment}
use Rattle.sip_moments.specs.Sittings as moment_sittings
use Rattle.sip_questions.specs.declared.asker.QuestionGiven.{QuestionGiven}
use Rattle.sip_questions.specs.declared.asker.QuestionGiven.TheVariants as givens
use Rattle.sip_questions.specs.declared.question.Question.{Question}
use Rattle.sip_questions.specs.declared.question.Question.TheVariants as questions
use Rattle.sip_questions.specs.Questions.{asking}
use Rattle.sip_questions.specs.Sittings.{query_given, query_like, stated}
use Rattle.sip_steps.specs.declared.opening.Opening.{Opening}
use Rattle.sip_steps.specs.declared.opening.Opening.TheVariants as openings
use Rattle.sip_steps.specs.declared.question.QuestionAsking.{QuestionAsking}
use Rattle.sip_steps.specs.declared.question.QuestionAsking.TheVariants as askings
use Rattle.sip_steps.specs.declared.looking.Looking.{Looking}
use Rattle.sip_steps.specs.declared.posing.Posing.{Posing}
use Rattle.sip_steps.specs.Asked.{end_heard}
use Rattle.sip_steps.specs.Looked as looks
use Rattle.sip_steps.specs.Openings.{Subject, subject_at}
use Rattle.sip_steps.specs.Posed.{IsPosed, due_at, pairs_at, stage_at}

-- what is asked, at a depth in a version, at these challenges, and by these numbers of a stream
pub record About : Type 0 where
  pub version : Version
  pub depth : ℕ
  pub question : Question
  pub block : List ℕ
  pub running : RunningNumbers

abbrev pub about : Version → ℕ → Question → Running → About
about version depth question running = record {
  version = version;
  depth = depth;
  question = question;
  block = block_of running;
  running = numbers_of running;
}

-- the numbers are those of this stream
abbrev pub IsOf : About → List Update → Type 0
IsOf q stream = RunsOn q.depth stream (query_like q.question) q.block q.running

-- the question that is asked by one message
abbrev pub question_by : Opening → Question
question_by (openings.Query query) = questions.Query query
question_by (openings.Moment moment) = questions.Moment moment
question_by (openings.Large large) = questions.Large large

abbrev pub by_opening : About → Opening → Subject
by_opening q opening = subject_at q.version q.depth opening q.block q.running

-- ---- the talk so far

-- the question is asked by one message
pub record IsOpened (q : About) (events : List TalkEvent) (p : Posing) : Type 0 where
  pub opening : Opening
  pub is : q.question ≡ question_by opening
  pub talk : IsPosed (by_opening q opening) events p

-- it is a lookup
pub record IsSought (q : About) (events : List TalkEvent) (l : Looking) : Type 0 where
  pub version : l.version ≡ q.version
  pub depth : l.depth ≡ q.depth
  pub is : q.question ≡ questions.Lookup l.lookup
  pub block : l.root.seat ≡ q.block
  pub running : q.running ≡ root_is l.root.value
  pub some : 1 ≤ length q.block
  pub talk : looks.IsLooked l.root.seat l.root.value events l

-- These events are a talk of the question, as far as it is. The last bytes may be a part of a
-- frame.
abbrev pub IsAskedOf : About → List TalkEvent → QuestionAsking → Type 0
IsAskedOf q events (askings.Posed p) = IsOpened q events p
IsAskedOf q events (askings.Looked l) = IsSought q events l

-- It was begun, and nothing but its own calls changed it.
abbrev pub HasBegun : QuestionAsking → Type 0
HasBegun a = (q : About) × (events : List TalkEvent) × IsAskedOf q events a

-- ---- what is the same of both

abbrev pub is_due_at : QuestionAsking → Bool
is_due_at (askings.Posed p) = is_due (stage_at p)
is_due_at (askings.Looked l) = looks.is_due_at l.step

abbrev pub is_hearing_at : QuestionAsking → Bool
is_hearing_at (askings.Posed p) = is_hearing (stage_at p)
is_hearing_at (askings.Looked l) = looks.is_hearing_at l.step

-- there is no verdict yet
abbrev pub is_open_at : QuestionAsking → Bool
is_open_at (askings.Posed p) = is_open (stage_at p)
is_open_at (askings.Looked l) = not (looks.is_judged l.step)

-- the bytes that are to be sent
abbrev pub due_of : QuestionAsking → List ℕ
due_of (askings.Posed p) = due_at p
due_of (askings.Looked l) = looks.due_of l.version l.lookup l.step

-- that the other end had closed, where bytes were to come
abbrev pub end_of : QuestionAsking → List TalkEvent
end_of (askings.Posed p) = end_heard (stage_at p)
end_of (askings.Looked l) = looks.end_at l.step

-- the pairs that are shown
abbrev pub pairs_of : QuestionAsking → List Entry
pairs_of (askings.Posed p) = pairs_at p
pairs_of (askings.Looked l) = []

-- ---- what came of it

abbrev pub moment_given : Moment → Result ℤ Unanswered → Result QuestionGiven Unanswered
moment_given moment (Ok value) = Ok (givens.Moment moment value)
moment_given moment (Err why) = Err why

abbrev pub large_given : Large → Result (Unit {0}) Unanswered → Result QuestionGiven Unanswered
large_given large (Ok t) = Ok (givens.Large large)
large_given large (Err why) = Err why

-- the answer to what is asked by one message, with what is asked
abbrev pub given_of : Opening → Result Said AskStop → Result QuestionGiven Unanswered
given_of (openings.Query query) asked = query_given query (judging.verdict_of asked)
given_of (openings.Moment moment) asked =
    moment_given moment (moment_sittings.verdict_of asked)
given_of (openings.Large large) asked = large_given large (large_sittings.verdict_of asked)

-- that to a lookup
abbrev pub look_given : Lookup → Result LookAnswer Unanswered → Result QuestionGiven Unanswered
look_given lookup (Ok answer) = Ok (givens.Lookup lookup answer)
look_given lookup (Err why) = Err why

-- What the events are a talk of, by what is said of it: as whoever asks over a link has it, in the
-- manner of questions. Where nothing is said yet, no answer is possible by them.
abbrev pub ComesTo : About → List Update → List TalkEvent → List Entry
    → Option (Result QuestionGiven Unanswered) → Type 0
ComesTo q stream events entries None = IsInterrupted (asking q.version q.depth stream) q.question
    q.block (Some []) (Some events)
ComesTo q stream events entries (Some said) =
    Asks (asking q.version q.depth stream) (q.question, q.block) (Some []) (Some events)
    (λ given answer. stated entries given ≡ (q.question, answer)) said
