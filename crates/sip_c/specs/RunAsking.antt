-- A run whose questions are asked, behind its stream: how that begins, and what calls do to it.
use Rattle.std.specs.Prelude.{◌≡◌, ℕ, List, [], ◌∷◌, Option, Some, None}
use Rattle.std.specs.Prelude.{Ok, Err, Bool, true, false}
use Rattle.sip_ports.specs.declared.port.TalkEvent.{TalkEvent}
use Rattle.sip_vector.specs.declared.update.Update.{Update}
use Rattle.sip_wire.specs.Spelling.{spelling}
use Rattle.sip_wire.specs.declared.message.Message.TheVariants as messages
use Rattle.sip_wire.specs.declared.version.Version.{Version}
use Rattle.sip_verifier.specs.declared.status.Status.{Status}
use Rattle.sip_verifier.specs.declared.status.Status.TheVariants as statuses
use Rattle.sip_questions.specs.Questions.{first_refusal}
use Rattle.sip_runs.specs.Plans.{Plan}
use Rattle.sip_runs.specs.Runs.{IsFirstOf, IsFollowed, IsToBeAsked, behind_first, is_ended}
use Rattle.sip_runs.specs.declared.following.Following.{Following}
use Rattle.sip_runs.specs.declared.seat.RunSeat.{RunSeat}
use Rattle.sip_runs.specs.declared.to_ask.ToAsk.{ToAsk}
use Rattle.sip_steps.specs.Questioned.{IsAskedOf, about, pairs_of}
use Rattle.sip_c.specs.Asking.{AreCopied}
use Rattle.sip_c.specs.Endings.{about as told_about, plain}
use Rattle.sip_c.specs.Rooms.{AreHanded}
use Rattle.sip_c.specs.Statuses.{Answer}
use Rattle.sip_c.specs.Talks.{AnswersBy, EndsBy, IsSettled, TalkCloses, TalkDue, TalkFeeds}
use Rattle.sip_c.specs.Talks.{Verdict, next_number, talk_wants}
use Rattle.sip_c.specs.declared.answers.AnswerCode.{AnswerCode}
use Rattle.sip_c.specs.declared.answers.EntryCode.{EntryCode}
use Rattle.sip_c.specs.declared.ending.Ending.{Ending}
use Rattle.sip_c.specs.declared.kept.Kept.{Kept}
use Rattle.sip_c.specs.declared.kept.Kept.TheVariants as kept
use Rattle.sip_c.specs.declared.refusal.Refusal.{Refusal}
use Rattle.sip_c.specs.declared.refusal.Refusal.TheVariants as refusals
use Rattle.sip_c.specs.declared.run_asking.RunAsking.{RunAsking}
use Rattle.sip_c.specs.declared.run_asking.RunStep.{RunStep}
use Rattle.sip_c.specs.declared.run_asking.RunStep.TheVariants as at
use Rattle.sip_c.specs.declared.talk.Talk.{Talk}

-- ---- where it is

abbrev pub IsSettledAt : RunStep → Type 0
IsSettledAt (at.Question talk) = IsSettled talk
IsSettledAt _ = Unit {0}

-- It was begun by a call of the library, and nothing but its calls changed it: the questions that
-- are left are those of a run.
pub record IsRunAsked (a : RunAsking) : Type 0 where
  pub left : (p : Plan) × (stream : List Update) × IsToBeAsked p stream a.left
  pub settled : IsSettledAt a.step

-- ---- how it begins, and goes from question to question

-- the first of the questions that were left was taken
pub record IsTaken (old : ToAsk) (seat : RunSeat) (left : ToAsk) : Type 0 where
  pub order : old.seats.items ≡ seat ∷ left.seats.items
  pub version : left.version ≡ old.version
  pub depth : left.depth ≡ old.depth
  pub asked : (p : Plan) (stream : List Update) → IsToBeAsked p stream old
      → IsFirstOf p stream seat × IsToBeAsked (behind_first p) stream left

-- The first of the questions that were left begins, with this number and before anything was said
-- of it; or there was none, and the farewell is due.
abbrev pub TurnsTo : ℕ → ToAsk → ToAsk → RunStep → Type 0
TurnsTo number old left (at.Question talk) = (talk.number ≡ number)
    × ((seat : RunSeat) × IsTaken old seat left
    × IsAskedOf (about old.version old.depth seat.question seat.running) [] talk.asking)
TurnsTo number old left at.Leaving = (old.seats.items ≡ []) × (left.version ≡ old.version)
TurnsTo number old left _ = ⊥

-- the refusal of questions by this status, and what is told of it
abbrev pub refusal_by : Status → Refusal
refusal_by (statuses.TooWide query) = refusals.TooWide
refusal_by (statuses.TooHigh query) = refusals.TooHigh
refusal_by _ = refusals.NoMemory

abbrev pub told_by : Status → Ending → Ending
told_by (statuses.TooWide query) told = told_about query
told_by (statuses.TooHigh query) told = told_about query
told_by _ told = told

-- The questions are asked in order, each by the numbers of the stream; or there is no memory for
-- that; or the first stands against it for which a helper may have no room.
abbrev pub AsksBehind : Following → Ending → Ending → Answer → Option Kept → Type 0
AsksBehind f told told' (Ok done) (Some (kept.RunAsking a)) = (told' ≡ told)
    × ((old : ToAsk) × TurnsTo 1 old a.left a.step
    × ((p : Plan) (stream : List Update) (events : List TalkEvent) → IsFollowed p stream events f
    → IsToBeAsked p stream old × (first_refusal stream 1 p.questions ≡ None)))
AsksBehind f told told' (Ok done) _ = ⊥
AsksBehind f told told' (Err refusals.NoMemory) new = (new ≡ None) × (told' ≡ told)
AsksBehind f told told' (Err why) new = (new ≡ None) × ((status : Status)
    × (why ≡ refusal_by status) × (told' ≡ told_by status told)
    × ((p : Plan) (stream : List Update) (events : List TalkEvent) → IsFollowed p stream events f
    → first_refusal stream 1 p.questions ≡ Some status))

-- A run of one handle is asked behind another one, which is empty. Once all of its stream was sent
-- its own handle is empty then, whatever comes of it; before that both stay as they were.
abbrev pub AsksRun : Ending → Ending → Option Kept → Following → Bool → Answer → Option Kept
    → Type 0
AsksRun told told' new f true answer run' = (run' ≡ None) × AsksBehind f told told' answer new
AsksRun told told' new f false answer run' = (answer ≡ Err refusals.NotNow)
    × (run' ≡ Some (kept.Run f)) × (new ≡ None) × (told' ≡ told)

abbrev pub AsksOf : Ending → Ending → Option Kept → Kept → Answer → Option Kept → Type 0
AsksOf told told' new (kept.Run f) answer run' =
    AsksRun told told' new f (is_ended f.step) answer run'
AsksOf told told' new old answer run' =
    (answer ≡ Err refusals.OtherHandle) × (run' ≡ Some old) × (new ≡ None) × (told' ≡ told)

abbrev pub AsksIn : Ending → Ending → Option Kept → Option Kept → Option Kept → Answer
    → Option Kept → Type 0
AsksIn told told' (Some a) new run answer run' =
    (answer ≡ Err refusals.Full) × (new ≡ Some a) × (run' ≡ run) × (told' ≡ told)
AsksIn told told' None new None answer run' =
    (answer ≡ Err refusals.Empty) × (new ≡ None) × (run' ≡ None) × (told' ≡ told)
AsksIn told told' None new (Some old) answer run' = AsksOf told told' new old answer run'

-- Behind an answer the next question has its turn, or there is no memory for it, and nothing more
-- is asked. Else it stays as it was.
abbrev pub GoesBehind : RunAsking → Talk → Verdict → Answer → RunAsking → Type 0
GoesBehind a talk (Some (Ok given)) (Ok done) b =
    TurnsTo (next_number talk.number) a.left b.left b.step
GoesBehind a talk (Some (Ok given)) (Err refusals.NoMemory) b = b.step ≡ at.Stopped
GoesBehind a talk (Some (Ok given)) _ b = ⊥
GoesBehind a talk _ answer b = (answer ≡ Err refusals.NotNow) × (b ≡ a)

abbrev pub GoesAt : RunAsking → RunStep → Answer → RunAsking → Type 0
GoesAt a (at.Question talk) answer b = GoesBehind a talk talk.said answer b
GoesAt a _ answer b = (answer ≡ Err refusals.NotNow) × (b ≡ a)

abbrev pub RunGoes : RunAsking → Answer → RunAsking → Type 0
RunGoes a answer b = GoesAt a a.step answer b

-- ---- the bytes

-- those of the question at hand, or those of the farewell behind the last one; and none else
abbrev pub DueAt : Version → List ℕ → List ℕ → ℕ → RunStep → Answer → RunStep → Type 0
DueAt version to to' count (at.Question talk) answer (at.Question next) =
    TalkDue to to' count talk answer next
DueAt version to to' count (at.Question talk) answer _ = ⊥
DueAt version to to' count at.Leaving (Ok done) at.Left =
    AreHanded (spelling version messages.Bye) to to' count
DueAt version to to' count at.Leaving (Err refusals.NoRoom) at.Leaving = to' ≡ to
DueAt version to to' count at.Leaving _ _ = ⊥
DueAt version to to' count step answer next =
    (answer ≡ Ok tt) × (next ≡ step) × AreHanded [] to to' count

abbrev pub RunAskingDue : List ℕ → List ℕ → ℕ → RunAsking → Answer → RunAsking → Type 0
RunAskingDue to to' count a answer b =
    (b.left ≡ a.left) × DueAt a.left.version to to' count a.step answer b.step

-- bytes go to the question at hand; none are taken else
abbrev pub FeedsAt : List ℕ → ℕ → RunStep → Answer → RunStep → Type 0
FeedsAt bytes taken (at.Question talk) answer (at.Question next) =
    TalkFeeds bytes taken talk answer next
FeedsAt bytes taken (at.Question talk) answer _ = ⊥
FeedsAt bytes taken step answer next = (answer ≡ Ok tt) × (next ≡ step) × (taken ≡ 0)

abbrev pub RunAskingFeeds : List ℕ → ℕ → RunAsking → Answer → RunAsking → Type 0
RunAskingFeeds bytes taken a answer b =
    (b.left ≡ a.left) × FeedsAt bytes taken a.step answer b.step

-- the other end closed
abbrev pub ClosesAt : RunStep → Answer → RunStep → Type 0
ClosesAt (at.Question talk) answer (at.Question next) = TalkCloses talk answer next
ClosesAt (at.Question talk) answer _ = ⊥
ClosesAt step answer next = (answer ≡ Ok tt) × (next ≡ step)

abbrev pub RunAskingCloses : RunAsking → Answer → RunAsking → Type 0
RunAskingCloses a answer b = (b.left ≡ a.left) × ClosesAt a.step answer b.step

-- ---- what is told

-- the number of what is wanted
abbrev pub step_wants : RunStep → ℕ
step_wants (at.Question talk) = talk_wants talk talk.said
step_wants at.Leaving = 1
step_wants _ = 5

abbrev pub RunAskingWanted : ℕ → RunAsking → Answer → RunAsking → Type 0
RunAskingWanted number a answer b = (answer ≡ Ok tt) × (b ≡ a) × (number ≡ step_wants a.step)

-- the answer to the question at hand, where there is one
abbrev pub AnswersAt : AnswerCode → AnswerCode → RunStep → Answer → Type 0
AnswersAt told told' (at.Question talk) answer = AnswersBy told told' talk talk.said answer
AnswersAt told told' _ answer = (answer ≡ Err refusals.NotNow) × (told' ≡ told)

abbrev pub RunAskingAnswers : AnswerCode → AnswerCode → RunAsking → Answer → RunAsking → Type 0
RunAskingAnswers told told' a answer b = (b ≡ a) × AnswersAt told told' a.step answer

-- its pairs are copied
abbrev pub CopiesAt : ℕ → List EntryCode → List EntryCode → ℕ → RunStep → Type 0
CopiesAt from to to' count (at.Question talk) = AreCopied (pairs_of talk.asking) from to to' count
CopiesAt from to to' count _ = AreCopied [] from to to' count

abbrev pub RunAskingCopies : ℕ → List EntryCode → List EntryCode → ℕ → RunAsking → Answer
    → RunAsking → Type 0
RunAskingCopies from to to' count a answer b =
    (answer ≡ Ok tt) × (b ≡ a) × CopiesAt from to to' count a.step

-- how it ended, where it has
abbrev pub StepEnds : Ending → Ending → RunStep → Answer → Type 0
StepEnds told told' (at.Question talk) answer = EndsBy told told' talk.number talk.said answer
StepEnds told told' at.Leaving answer = (answer ≡ Err refusals.NotNow) × (told' ≡ told)
StepEnds told told' at.Left answer = (answer ≡ Ok tt) × (told' ≡ plain)
StepEnds told told' at.Stopped answer = (answer ≡ Err refusals.NoMemory) × (told' ≡ plain)

abbrev pub RunAskingEnds : Ending → Ending → RunAsking → Answer → RunAsking → Type 0
RunAskingEnds told told' a answer b = (b ≡ a) × StepEnds told told' a.step answer

-- nothing of a run is stored
abbrev pub NotStored : Type 0 → RunAsking → Answer → RunAsking → Type 0
NotStored Unwritten a answer b = (answer ≡ Err refusals.NotNow) × (b ≡ a) × Unwritten
