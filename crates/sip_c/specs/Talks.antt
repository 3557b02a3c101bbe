-- The talk of one question of a run: what calls do to it.
use Rattle.std.specs.Prelude.{◌≡◌, ℕ, ◌≤◌, ◌+◌, min, List, ◌++◌, length, take, true, false}
use Rattle.std.specs.Prelude.{Option, Some}
use Rattle.std.specs.Prelude.{None, Result, Ok, Err, IfSome, is_none, if◌then◌else◌}
use Rattle.sip_ports.specs.Ports.{ins, outs}
use Rattle.sip_ports.specs.declared.port.TalkEvent.{TalkEvent}
use Rattle.sip_vector.specs.declared.update.Update.{Update}
use Rattle.sip_verifier.specs.declared.asker.Unanswered.{Unanswered}
use Rattle.sip_verifier.specs.declared.asker.Unanswered.TheVariants as unanswered
use Rattle.sip_verifier.specs.runs.Askers.{has_failed}
use Rattle.sip_questions.specs.declared.asker.QuestionGiven.{QuestionGiven}
use Rattle.sip_steps.specs.Questioned.{About, ComesTo, HasBegun, IsAskedOf, IsOf, due_of, end_of}
use Rattle.sip_steps.specs.Questioned.{is_due_at, is_hearing_at, is_open_at, pairs_of}
use Rattle.sip_c.specs.Asking.{told_of}
use Rattle.sip_c.specs.Endings.{rejected}
use Rattle.sip_c.specs.Rooms.{AreHanded}
use Rattle.sip_c.specs.Statuses.{Answer}
use Rattle.sip_c.specs.declared.answers.AnswerCode.{AnswerCode}
use Rattle.sip_c.specs.declared.ending.Ending.{Ending}
use Rattle.sip_c.specs.declared.refusal.Refusal.TheVariants as refusals
use Rattle.sip_c.specs.declared.talk.Talk.{Talk}

-- what is known of a question: nothing, its answer, or why it has none
abbrev pub Verdict : Type 0
Verdict = Option (Result QuestionGiven Unanswered)

-- It was begun by a call of the library, and nothing but its calls changed it; and what is known of
-- its question is what whoever asks over a link has of the talk so far, about each stream whose
-- numbers the question is judged by.
pub record IsSettled (a : Talk) : Type 0 where
  pub begun : HasBegun a.asking
  pub unjudged : is_none a.said ≡ is_open_at a.asking
  pub comes : (q : About) (stream : List Update) (events : List TalkEvent) → IsOf q stream
      → IsAskedOf q events a.asking → ComesTo q stream events (pairs_of a.asking) a.said
  pub judged : IfSome a.said (λ said. has_failed said ≡ false)

-- what was said so far was said, and then these events; the question has the same number
abbrev pub GoesOn : Talk → List TalkEvent → Talk → Type 0
GoesOn a more b = (b.number ≡ a.number) × ((q : About) (events : List TalkEvent)
    → IsAskedOf q events a.asking → IsAskedOf q (events ++ more) b.asking)

-- The bytes that were due are in front, and no more of them are due; or there is no room for them,
-- and all are due as before.
abbrev pub TalkDue : List ℕ → List ℕ → ℕ → Talk → Answer → Talk → Type 0
TalkDue to to' count a (Ok done) b = AreHanded (due_of a.asking) to to' count
    × GoesOn a (outs (due_of a.asking)) b × (is_due_at b.asking ≡ false)
TalkDue to to' count a (Err refusals.NoRoom) b = (b ≡ a) × (to' ≡ to)
TalkDue to to' count a _ b = ⊥

-- So many of the bytes that came were taken: all of them while some are awaited, and none behind
-- the last one that is.
pub record IsFed (bytes : List ℕ) (taken : ℕ) (a b : Talk) : Type 0 where
  pub most : taken ≤ length bytes
  pub all : is_hearing_at b.asking ≡ true → taken ≡ length bytes
  pub none : is_hearing_at a.asking ≡ false → taken ≡ 0
  pub done : GoesOn a (ins (take taken bytes)) b

abbrev pub TalkFeeds : List ℕ → ℕ → Talk → Answer → Talk → Type 0
TalkFeeds bytes taken a answer b = (answer ≡ Ok tt) × IsFed bytes taken a b

-- the other end closed, where bytes were awaited; none are any more
abbrev pub TalkCloses : Talk → Answer → Talk → Type 0
TalkCloses a answer b = (answer ≡ Ok tt) × (is_hearing_at b.asking ≡ false)
    × GoesOn a (end_of a.asking) b

-- the number of what is wanted: that bytes are sent (1), bytes (2), that the answer is read (4), or
-- nothing (5)
abbrev pub talk_wants : Talk → Verdict → ℕ
talk_wants a None = if is_due_at a.asking then 1 else 2
talk_wants a (Some (Ok given)) = 4
talk_wants a (Some (Err why)) = 5

-- the number of the next question
abbrev pub next_number : ℕ → ℕ
next_number number = min (number + 1) 255

-- the answer is told, where there is one
abbrev pub AnswersBy : AnswerCode → AnswerCode → Talk → Verdict → Answer → Type 0
AnswersBy told told' a (Some (Ok given)) answer =
    (answer ≡ Ok tt) × (told' ≡ told_of a.number (length (pairs_of a.asking)) given)
AnswersBy told told' a _ answer = (answer ≡ Err refusals.NotNow) × (told' ≡ told)

-- why there is none, where its replies have a fault
abbrev pub EndsBy : Ending → Ending → ℕ → Verdict → Answer → Type 0
EndsBy told told' number (Some (Err (unanswered.Rejected round reason))) answer =
    (answer ≡ Err refusals.Rejected) × (told' ≡ rejected number round reason)
EndsBy told told' number _ answer = (answer ≡ Err refusals.NotNow) × (told' ≡ told)

-- the number of the next question, where this one was answered
abbrev pub IsNextNumber : ℕ → Verdict → Option ℕ → Type 0
IsNextNumber number (Some (Ok given)) next = next ≡ Some (next_number number)
IsNextNumber number _ next = next ≡ None
