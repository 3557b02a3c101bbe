-- What a run of questions promises: the five promises of any run, in the manner of questions.
use Rattle.std.specs.Prelude.{◌≡◌, ℕ, ◌≤◌, ◌<◌, All, List, length, Some, None}
use Rattle.sip_field.specs.Moduli.{m61_modulus}
use Rattle.sip_vector.specs.Pieces.{cut}
use Rattle.sip_wire.specs.declared.version.Version.{Version}
use Rattle.sip_wire.specs.Versions.{Speaks, deepest}
use Rattle.sip_verifier.specs.declared.status.Status.{Status}
use Rattle.sip_verifier.specs.Exchanges.{Exchange}
use Rattle.sip_verifier.specs.Snapshots.{Counts}
use Rattle.sip_verifier.specs.runs.Promises.{Promises}
use Rattle.sip_verifier.specs.runs.Runs.{Run}
use Rattle.sip_verifier.specs.Tasks.{CanBeAsked}
use Rattle.sip_above.specs.Questions.{CanAskLarge}
use Rattle.sip_lookup.specs.Lookups.{CanLook}
use Rattle.sip_moments.specs.Moments.{IsDegree}
use Rattle.sip_questions.specs.declared.question.Question.{Question}
use Rattle.sip_questions.specs.declared.question.Question.TheVariants as questions
use Rattle.sip_questions.specs.Counting.{counting}
use Rattle.sip_questions.specs.Honest.{honesty}
use Rattle.sip_questions.specs.Questions.{asking}

-- ---- which runs

-- the question can be asked at this depth in this version
abbrev pub CanPose : Version → ℕ → Question → Type 0
CanPose version depth (questions.Query query) =
    CanBeAsked depth query × Speaks version depth query
CanPose version depth (questions.Lookup lookup) = CanLook depth lookup
CanPose version depth (questions.Moment moment) = IsDegree moment.degree
CanPose version depth (questions.Large large) = CanAskLarge version depth large

-- a block has a challenge for each level
pub record IsWhole (depth : ℕ) (block : List ℕ) : Type 0 where
  pub size : length block ≡ depth
  pub below : All (λ r. r < m61_modulus) block

-- There are levels, each question can be asked, and each has a whole block of the challenges. A
-- seed that is too short gives none.
pub record CanRun (r : Run Question) (x : Exchange) : Type 0 where
  pub some : 1 ≤ r.depth
  pub shallow : r.depth ≤ deepest r.version
  pub asked : All (CanPose r.version r.depth) r.queries
  pub blocks : (challenges : List ℕ) → r.challenges ≡ Some challenges
      → All (IsWhole r.depth) (cut r.depth challenges)
  pub short : length x.seed < 32 → r.challenges ≡ None

-- ---- the promises

abbrev pub QuestionClauses : Run Question → Exchange → Counts → Counts → Status → Type 0
QuestionClauses r x before now status =
    Promises asking counting honesty r x before now status
