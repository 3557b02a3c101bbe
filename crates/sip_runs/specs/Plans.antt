-- What is asked in a run, and what stands against it.
use Rattle.std.specs.Prelude.{◌≡◌, ◌<◌, ◌≤◌, ℕ, suc, All, List, length, take, get_or}
use Rattle.sip_vector.specs.Pieces.{cut}
use Rattle.sip_wire.specs.declared.version.Version.{Version}
use Rattle.sip_wire.specs.Table.{most_queries}
use Rattle.sip_questions.specs.declared.question.Question.{Question}
use Rattle.sip_questions.specs.Promises.{CanPose}
use Rattle.sip_questions.specs.Questions.{version_for}
use Rattle.sip_runs.specs.declared.start.RunStart.{RunStart}
use Rattle.sip_runs.specs.declared.start.RunStart.TheVariants as starts

-- what is asked of a stream over 2^depth items: in which version, these questions in order, each at
-- its own block of challenges
pub record Plan : Type 0 where
  pub version : Version
  pub depth : ℕ
  pub questions : List Question
  pub blocks : List (List ℕ)

-- by the challenges that a seed gives: block k is the challenges (k - 1) * d + 1 to k * d
abbrev pub plan_of : ℕ → List Question → List ℕ → Plan
plan_of depth questions challenges = record {
  version = version_for depth questions;
  depth = depth;
  questions = questions;
  blocks = cut depth challenges;
}

-- ---- what stands against it

-- there are 1 to 16 questions
abbrev pub AreSome : List Question → Type 0
AreSome questions = (0 < length questions) × (length questions ≤ most_queries)

-- each can be asked
abbrev pub AllFit : Version → ℕ → List Question → Type 0
AllFit version depth questions = All (CanPose version depth) questions

-- this is the first question, counted from 1, that can't be asked
pub record IsUnfit (version : Version) (depth : ℕ) (questions : List Question)
    (number : ℕ) : Type 0 where
  pub index : ℕ
  pub number_is : number ≡ suc index
  pub inside : index < length questions
  pub before : AllFit version depth (take index questions)
  pub cannot : (d : Question) → ¬ CanPose version depth (get_or questions index d)

-- there are 1 to 16, and each can be asked in the least version that has all of them
pub record CanBegin (depth : ℕ) (questions : List Question) : Type 0 where
  pub some : AreSome questions
  pub fit : AllFit (version_for depth questions) depth questions

-- the first that stands against it, in order; the challenges and the memory are no matter of these
abbrev pub StandsAgainst : ℕ → List Question → RunStart → Type 0
StandsAgainst depth questions starts.Count = ¬ AreSome questions
StandsAgainst depth questions (starts.Unfit number) =
    AreSome questions × IsUnfit (version_for depth questions) depth questions number
StandsAgainst depth questions _ = ⊥
