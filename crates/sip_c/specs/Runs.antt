-- A run behind a handle while its stream goes by: how it begins, and what calls do to it.
use Rattle.std.specs.Prelude.{◌≡◌, ℕ, ◌<◌, ◌≤◌, List, ◌++◌, length, take, get_or, true, false, All}
use Rattle.std.specs.Prelude.{Option, Some, None, Result, Ok, Err, if◌then◌else◌}
use Rattle.sip_ports.specs.Ports.{outs}
use Rattle.sip_ports.specs.declared.port.TalkEvent.{TalkEvent}
use Rattle.sip_vector.specs.Limits.{most_depth}
use Rattle.sip_vector.specs.declared.update.Update.{Update}
use Rattle.sip_stream.specs.Records.{update_fault}
use Rattle.sip_stream.specs.declared.why.Why.{Why}
use Rattle.sip_stream.specs.declared.why.Why.TheVariants as whys
use Rattle.sip_questions.specs.declared.question.Question.{Question}
use Rattle.sip_runs.specs.Plans.{Plan}
use Rattle.sip_runs.specs.Runs.{Begins, IsFollowed, due_bytes, is_due, is_taking}
use Rattle.sip_runs.specs.declared.following.Following.{Following}
use Rattle.sip_runs.specs.declared.start.RunStart.{RunStart}
use Rattle.sip_runs.specs.declared.start.RunStart.TheVariants as starts
use Rattle.sip_c.specs.Codes.{HasSide, update_of}
use Rattle.sip_c.specs.Endings.{about}
use Rattle.sip_c.specs.Handles.{ThroughRun}
use Rattle.sip_c.specs.Posing.{AreSome}
use Rattle.sip_c.specs.Questions.{AreQuestions, HaveNone}
use Rattle.sip_c.specs.Records.{ByRecords}
use Rattle.sip_c.specs.Rooms.{AreHanded}
use Rattle.sip_c.specs.Statuses.{Answer}
use Rattle.sip_c.specs.Weighing.{updates_of}
use Rattle.sip_c.specs.declared.codes.UpdateCode.{UpdateCode}
use Rattle.sip_c.specs.declared.ending.Ending.{Ending}
use Rattle.sip_c.specs.declared.kept.Kept.{Kept}
use Rattle.sip_c.specs.declared.kept.Kept.TheVariants as kept
use Rattle.sip_c.specs.declared.questions.QuestionCode.{QuestionCode}
use Rattle.sip_c.specs.declared.refusal.Refusal.{Refusal}
use Rattle.sip_c.specs.declared.refusal.Refusal.TheVariants as refusals

-- ---- how it begins

-- what is asked for: a seed, a depth, and questions as numbers
pub record WantedRun : Type 0 where
  pub seed : List ℕ
  pub depth : ℕ
  pub codes : List QuestionCode

abbrev pub HasRunLengths : WantedRun → Type 0
HasRunLengths w = (length w.seed ≡ 32) × AreSome w.codes

abbrev pub HasRunDepth : WantedRun → Type 0
HasRunDepth w = (1 ≤ w.depth) × (w.depth ≤ most_depth)

-- the questions that are asked for come to this, at the challenges of the seed
pub record ComesToRun (w : WantedRun) (result : Result Following RunStart) : Type 0 where
  pub lengths : HasRunLengths w
  pub asked : List Question
  pub questions : AreQuestions w.codes asked
  pub begins : Begins w.depth asked w.seed result

-- why no run begins, and what is told of it
abbrev pub StandsAgainstRun : WantedRun → Ending → Ending → Refusal → Type 0
StandsAgainstRun w told told' refusals.BadLength = (¬ HasRunLengths w) × (told' ≡ told)
StandsAgainstRun w told told' refusals.BadDepth =
    HasRunLengths w × (¬ HasRunDepth w) × (told' ≡ told)
StandsAgainstRun w told told' refusals.BadCode =
    HasRunLengths w × HasRunDepth w × HaveNone w.codes × (told' ≡ told)
StandsAgainstRun w told told' refusals.Unfit = (number : ℕ)
    × ComesToRun w (Err (starts.Unfit number)) × (told' ≡ about number)
StandsAgainstRun w told told' refusals.SeedSpent =
    ComesToRun w (Err starts.SeedSpent) × (told' ≡ told)
StandsAgainstRun w told told' refusals.NoMemory = HasRunLengths w × (told' ≡ told)
StandsAgainstRun w told told' _ = ⊥

-- A full handle stays as it was, which is an answer. In an empty one the run begins, before
-- anything was said; or it stays empty for that.
abbrev pub BeginsRun : WantedRun → Ending → Ending → Option Kept → Answer → Option Kept → Type 0
BeginsRun w told told' (Some old) answer new =
    (answer ≡ Err refusals.Full) × (new ≡ Some old) × (told' ≡ told)
BeginsRun w told told' None (Ok done) (Some (kept.Run f)) =
    ComesToRun w (Ok f) × (told' ≡ told)
BeginsRun w told told' None (Ok done) _ = ⊥
BeginsRun w told told' None (Err why) new = (new ≡ None) × StandsAgainstRun w told told' why

-- ---- what is said

-- what was said so far was said, and then these events
abbrev pub Says : Following → List TalkEvent → Following → Type 0
Says f more g = (p : Plan) (stream : List Update) (events : List TalkEvent)
    → IsFollowed p stream events f → IsFollowed p stream (events ++ more) g

-- The bytes that were due are in front, and no more of them are due; or there is no room for them,
-- and all are due as before.
abbrev pub RunDue : List ℕ → List ℕ → ℕ → Following → Answer → Following → Type 0
RunDue to to' count f (Ok done) g = AreHanded (due_bytes f) to to' count
    × Says f (outs (due_bytes f)) g × (is_due g.step ≡ false)
RunDue to to' count f (Err refusals.NoRoom) g = (g ≡ f) × (to' ≡ to)
RunDue to to' count f _ g = ⊥

-- the number of what is wanted: that bytes are sent (1), updates (6), or that its questions are
-- asked (7)
abbrev pub run_wants : Following → ℕ
run_wants f = if is_due f.step then 1 else if is_taking f.step then 6 else 7

abbrev pub RunWanted : ℕ → Following → Answer → Following → Type 0
RunWanted number f answer g = (answer ≡ Ok tt) × (g ≡ f) × (number ≡ run_wants f)

-- ---- what is heard

-- these updates came behind the stream so far
abbrev pub Hears : Following → List Update → Following → Type 0
Hears f more g = (p : Plan) (stream : List Update) (events : List TalkEvent)
    → IsFollowed p stream events f → IsFollowed p (stream ++ more) events g

-- the refusal of an update for this reason; those of records as lines are met by none
abbrev pub refusal_for : Why → Refusal
refusal_for whys.BadSide = refusals.BadSide
refusal_for whys.BadItem = refusals.BadItem
refusal_for whys.ZeroDelta = refusals.ZeroDelta
refusal_for (whys.TooHeavy side) = refusals.TooHeavy
refusal_for _ = refusals.BadLength

-- behind the stream so far and these updates it may not come, for that
abbrev pub IsBadBehind : Following → List Update → UpdateCode → Refusal → Type 0
IsBadBehind f before c why = (¬ HasSide c → why ≡ refusals.BadSide)
    × (HasSide c → (p : Plan) (stream : List Update) (events : List TalkEvent)
    → IsFollowed p stream events f → (cause : Why)
    × (update_fault p.depth (stream ++ before) (update_of c) ≡ Some cause)
    × (why ≡ refusal_for cause))

-- All of them came, while updates are taken; or the one behind those that came may not come, for
-- that.
abbrev pub FeedsTo : List UpdateCode → ℕ → Following → Following → Answer → Type 0
FeedsTo codes taken f g (Ok done) =
    (taken ≤ length codes) × (is_taking g.step ≡ true → taken ≡ length codes)
FeedsTo codes taken f g (Err why) = (taken < length codes)
    × ((d : UpdateCode) → IsBadBehind f (updates_of (take taken codes)) (get_or codes taken d) why)

-- so many of them came behind the stream so far
abbrev pub RunFeeds : List UpdateCode → ℕ → Following → Answer → Following → Type 0
RunFeeds codes taken f answer g = All HasSide (take taken codes)
    × Hears f (updates_of (take taken codes)) g × FeedsTo codes taken f g answer

-- the same stream, and the same was said
abbrev pub IsSame : Following → Following → Type 0
IsSame f g = (p : Plan) (stream : List Update) (events : List TalkEvent)
    → IsFollowed p stream events f → IsFollowed p stream events g

-- the stream ends, where updates are taken, and the rest of it is due
abbrev pub RunEnds : Following → Answer → Following → Type 0
RunEnds f (Ok done) g = (is_taking f.step ≡ true) × (is_due g.step ≡ true) × IsSame f g
RunEnds f (Err refusals.NotNow) g = (is_taking f.step ≡ false) × (g ≡ f)
RunEnds f _ g = ⊥

-- The updates that records of a form say come to the run that a handle has, as those of an array
-- do. Where there is no such form, or the bytes are no whole records, the handle stays as it was,
-- which is an answer.
abbrev pub RunFeedsBy : ℕ → List ℕ → ℕ → ℕ → Option Kept → Answer → Option Kept → Type 0
RunFeedsBy form bytes taken taken' old answer new = ByRecords form bytes
    (λ why. (answer ≡ Err why) × (new ≡ old) × (taken' ≡ taken))
    (λ codes. ThroughRun (taken' ≡ taken) (RunFeeds codes taken') old answer new)
