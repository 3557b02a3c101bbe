-- How a sketch begins to be asked behind a handle.
use Rattle.std.specs.Prelude.{◌≡◌, ◌⊎◌, ◌<◌, ◌≤◌, List, length, Option, Some, None, Ok, Err}
use Rattle.std.specs.Prelude.{MatchResult}
use Rattle.sip_wire.specs.Table.{most_queries}
use Rattle.sip_ask.specs.declared.status.AskStatus.{AskStatus}
use Rattle.sip_ask_steps.specs.Steps.{Begins}
use Rattle.sip_ask_steps.specs.declared.machine.SketchAsking.{SketchAsking}
use Rattle.sip_questions.specs.declared.question.Question.{Question}
use Rattle.sip_sketch.specs.Sketches.{IsSketch, SketchValues, spelled_file}
use Rattle.sip_c.specs.Endings.{ending_at, refusal_at}
use Rattle.sip_c.specs.Questions.{AreQuestions, HaveNone}
use Rattle.sip_c.specs.Statuses.{Answer}
use Rattle.sip_c.specs.declared.ending.Ending.{Ending}
use Rattle.sip_c.specs.declared.kept.Kept.{Kept}
use Rattle.sip_c.specs.declared.kept.Kept.TheVariants as kept
use Rattle.sip_c.specs.declared.questions.QuestionCode.{QuestionCode}
use Rattle.sip_c.specs.declared.refusal.Refusal.{Refusal}
use Rattle.sip_c.specs.declared.refusal.Refusal.TheVariants as refusals

-- there are 1 to 16 questions
abbrev pub AreSome : List QuestionCode → Type 0
AreSome codes = (0 < length codes) × (length codes ≤ most_queries)

-- the sketch that has the same file, which a copy of it is
pub record IsCopy (s copy : SketchValues) : Type 0 where
  pub is : IsSketch copy
  pub same : spelled_file copy ≡ spelled_file s

-- the sketch that has this one's file is asked these questions
pub record IsAsked (s : SketchValues) (codes : List QuestionCode) (a : SketchAsking) : Type 0 where
  pub copy : SketchValues
  pub copied : IsCopy s copy
  pub asked : List Question
  pub questions : AreQuestions codes asked
  pub begins : Begins copy asked (Ok a)

-- why it is not, by a status of which this is told
pub record IsRefused (s : SketchValues) (codes : List QuestionCode) (told : Ending) (why : Refusal)
    : Type 0 where
  pub copy : SketchValues
  pub copied : IsCopy s copy
  pub asked : List Question
  pub questions : AreQuestions codes asked
  pub status : AskStatus
  pub begins : Begins copy asked (Err status)
  pub answer : why ≡ refusal_at status
  pub ending : told ≡ ending_at status

-- Why it is not: the count of the questions, one that is none, want of memory for the copy, or a
-- status. A copy that is no sketch does not come.
abbrev pub StandsAgainst : SketchValues → List QuestionCode → Ending → Ending → Refusal → Type 0
StandsAgainst s codes told told' why =
    ((why ≡ refusals.BadLength) × (¬ AreSome codes) × (told' ≡ told))
    ⊎ (((why ≡ refusals.BadCode) × AreSome codes × HaveNone codes × (told' ≡ told))
    ⊎ ((((why ≡ refusals.NoMemory) ⊎ (why ≡ refusals.BadSketch)) × AreSome codes × (told' ≡ told))
    ⊎ IsRefused s codes told' why))

-- A sketch is asked by what begins in an empty handle, or that stays empty. What is none is not
-- asked, which is an answer.
abbrev pub PosesFrom : List QuestionCode → Ending → Ending → Kept → Answer → Option Kept → Type 0
PosesFrom codes told told' (kept.Sketch s) answer new = MatchResult answer
    (λ _. ((a : SketchAsking) × (new ≡ Some (kept.Asking a)) × IsAsked s codes a) × (told' ≡ told))
    (λ why. (new ≡ None) × StandsAgainst s codes told told' why)
PosesFrom codes told told' _ answer new =
    (answer ≡ Err refusals.OtherHandle) × (new ≡ None) × (told' ≡ told)

-- It is of another handle, which is empty then. Where it is not asked both stay as they were.
abbrev pub PosesIn : List QuestionCode → Ending → Ending → Option Kept → Option Kept → Option Kept
    → Answer → Option Kept → Type 0
PosesIn codes told told' (Some a) new sketch answer sketch' =
    (answer ≡ Err refusals.Full) × (new ≡ Some a) × (sketch' ≡ sketch) × (told' ≡ told)
PosesIn codes told told' None new None answer sketch' =
    (answer ≡ Err refusals.Empty) × (new ≡ None) × (sketch' ≡ None) × (told' ≡ told)
PosesIn codes told told' None new (Some kept) answer sketch' =
    MatchResult answer (λ _. sketch' ≡ None) (λ _. sketch' ≡ Some kept)
    × PosesFrom codes told told' kept answer new
