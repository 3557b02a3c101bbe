-- What calls do to a sketch that is asked.
use Rattle.std.specs.Prelude.{◌≡◌, ◌≢◌, ℕ, ◌<◌, ◌≤◌, true, false, List, ◌++◌, length}
use Rattle.std.specs.Prelude.{take, drop, Ok, Err, Some, None, Option, map, min, pos, ◌-◌}
use Rattle.sip_ports.specs.Ports.{ins, outs}
use Rattle.sip_ports.specs.declared.port.TalkEvent.{TalkEvent}
use Rattle.sip_ask_steps.specs.Plans.{Plan}
use Rattle.sip_ask_steps.specs.Steps.{IsDone, due_of, end_at, file_at, is_hearing_at, stored_at}
use Rattle.sip_ask_steps.specs.Steps.{pairs_at, wants_at, wants_of}
use Rattle.sip_ask_steps.specs.Steps.{answer_at as answer_at_hand}
use Rattle.sip_ask_steps.specs.declared.machine.SketchAsking.{SketchAsking}
use Rattle.sip_ask_steps.specs.declared.wants.Wants.{Wants}
use Rattle.sip_ask_steps.specs.declared.wants.Wants.TheVariants as wants
use Rattle.sip_lookup.specs.declared.answer.LookAnswer.TheVariants as looks
use Rattle.sip_questions.specs.declared.asker.QuestionGiven.{QuestionGiven}
use Rattle.sip_questions.specs.declared.asker.QuestionGiven.TheVariants as givens
use Rattle.sip_vector.specs.declared.update.Entry.{Entry}
use Rattle.sip_c.specs.Endings.{answer_at, ending_at}
use Rattle.sip_c.specs.Rooms.{AreHanded}
use Rattle.sip_c.specs.Statuses.{Answer}
use Rattle.sip_c.specs.declared.answers.AnswerCode.{AnswerCode}
use Rattle.sip_c.specs.declared.answers.EntryCode.{EntryCode}
use Rattle.sip_c.specs.declared.ending.Ending.{Ending}
use Rattle.sip_c.specs.declared.refusal.Refusal.TheVariants as refusals

-- the number of what is wanted
abbrev pub wants_number : Wants → ℕ
wants_number wants.Due = 1
wants_number wants.Waits = 2
wants_number wants.Stores = 3
wants_number wants.Answers = 4
wants_number (wants.Ended status) = 5

-- what was done so far is done, and then these events
abbrev pub Then : SketchAsking → List TalkEvent → SketchAsking → Type 0
Then a more b =
    (p : Plan) (events : List TalkEvent) → IsDone p events a → IsDone p (events ++ more) b

-- The bytes that were due are in front, and no more of them are due; or there is no room for them,
-- and all are due as before.
abbrev pub Due : List ℕ → List ℕ → ℕ → SketchAsking → Answer → SketchAsking → Type 0
Due to to' count a (Ok done) b =
    AreHanded (due_of a) to to' count × Then a (outs (due_of a)) b × (wants_at b.step ≢ wants.Due)
Due to to' count a (Err refusals.NoRoom) b = (b ≡ a) × (to' ≡ to)
Due to to' count a _ b = ⊥

-- So many of the bytes that came were taken: all of them while some are awaited, and none behind
-- the last one that is.
pub record Fed (bytes : List ℕ) (taken : ℕ) (a b : SketchAsking) : Type 0 where
  pub most : taken ≤ length bytes
  pub all : is_hearing_at b.step ≡ true → taken ≡ length bytes
  pub none : is_hearing_at a.step ≡ false → taken ≡ 0
  pub done : Then a (ins (take taken bytes)) b

-- The other end closed, where bytes were awaited; none are any more.
pub record Closed (a b : SketchAsking) : Type 0 where
  pub closed : is_hearing_at b.step ≡ false
  pub done : Then a (end_at a.step) b

-- the file that is to be stored is in front, where one is; or its size is told
abbrev pub StoresAt : List ℕ → List ℕ → ℕ → ℕ → SketchAsking → Answer → Type 0
StoresAt to to' size size' a (Ok done) = (wants_at a.step ≡ wants.Stores)
    × (size' ≡ length (file_at a a.step))
    × (to' ≡ file_at a a.step ++ drop (length (file_at a a.step)) to)
StoresAt to to' size size' a (Err refusals.NoRoom) = (wants_at a.step ≡ wants.Stores)
    × (size' ≡ length (file_at a a.step)) × (to' ≡ to) × (length to < length (file_at a a.step))
StoresAt to to' size size' a (Err refusals.NotNow) =
    (wants_at a.step ≢ wants.Stores) × (size' ≡ size) × (to' ≡ to)
StoresAt to to' size size' a _ = ⊥

abbrev pub StoresTo : List ℕ → List ℕ → ℕ → ℕ → SketchAsking → Answer → SketchAsking → Type 0
StoresTo to to' size size' a answer b = (b ≡ a) × StoresAt to to' size size' a answer

-- the file is stored, where one was to be
abbrev pub Stored : SketchAsking → Answer → SketchAsking → Type 0
Stored a (Ok done) b = (wants_at a.step ≡ wants.Stores) × Then a (stored_at a a.step) b
    × (wants_at b.step ≢ wants.Stores)
Stored a (Err refusals.NotNow) b = (wants_at a.step ≢ wants.Stores) × (b ≡ a)
Stored a _ b = ⊥

-- the answer was read, where there was one, and the next question has its turn
abbrev pub Goes : SketchAsking → Answer → SketchAsking → Type 0
Goes a (Ok done) b = (wants_at a.step ≡ wants.Answers)
    × ((p : Plan) (events : List TalkEvent) → IsDone p events a → IsDone p events b)
    × (wants_at b.step ≡ wants_of a.left.items)
Goes a (Err refusals.NotNow) b = (wants_at a.step ≢ wants.Answers) × (b ≡ a)
Goes a _ b = ⊥

-- that is wanted
abbrev pub Wanted : ℕ → SketchAsking → Answer → SketchAsking → Type 0
Wanted number a answer b = (answer ≡ Ok tt) × (b ≡ a) × (number ≡ wants_number (wants_at a.step))

abbrev pub Feeds : List ℕ → ℕ → SketchAsking → Answer → SketchAsking → Type 0
Feeds bytes taken a answer b = (answer ≡ Ok tt) × Fed bytes taken a b

abbrev pub Closes : SketchAsking → Answer → SketchAsking → Type 0
Closes a answer b = (answer ≡ Ok tt) × Closed a b

-- how it ended, where it has
abbrev pub EndsAt : Ending → Ending → Wants → Answer → Type 0
EndsAt told told' (wants.Ended status) answer =
    (answer ≡ answer_at status) × (told' ≡ ending_at status)
EndsAt told told' _ answer = (answer ≡ Err refusals.NotNow) × (told' ≡ told)

abbrev pub Ends : Ending → Ending → SketchAsking → Answer → SketchAsking → Type 0
Ends told told' a answer b = (b ≡ a) × EndsAt told told' (wants_at a.step) answer

-- what an answer says: a number (1), pairs, of which there are so many (2), an entry (3), or none
-- (4)
abbrev pub told_of : ℕ → ℕ → QuestionGiven → AnswerCode
told_of number pairs (givens.Number query value) = record {
  number = value;
  item = 0;
  pairs = 0;
  question = number;
  kind = 1;
}
told_of number pairs (givens.Pairs query) = record {
  number = pos 0;
  item = 0;
  pairs = pairs;
  question = number;
  kind = 2;
}
told_of number pairs (givens.Large large) = record {
  number = pos 0;
  item = 0;
  pairs = pairs;
  question = number;
  kind = 2;
}
told_of number pairs (givens.Lookup lookup (looks.Value value)) = record {
  number = value;
  item = 0;
  pairs = 0;
  question = number;
  kind = 1;
}
told_of number pairs (givens.Lookup lookup (looks.Nearest (Some e))) = record {
  number = e.value;
  item = e.index;
  pairs = 0;
  question = number;
  kind = 3;
}
told_of number pairs (givens.Lookup lookup (looks.Nearest None)) = record {
  number = pos 0;
  item = 0;
  pairs = 0;
  question = number;
  kind = 4;
}
told_of number pairs (givens.Moment moment value) = record {
  number = value;
  item = 0;
  pairs = 0;
  question = number;
  kind = 1;
}

-- that is told of the answer at hand, where there is one
abbrev pub IsTold : AnswerCode → AnswerCode → ℕ → Option (ℕ × QuestionGiven) → Answer → Type 0
IsTold told told' pairs None answer = (answer ≡ Err refusals.NotNow) × (told' ≡ told)
IsTold told told' pairs (Some given) answer =
    (answer ≡ Ok tt) × (told' ≡ told_of given.0 pairs given.1)

abbrev pub Answers : AnswerCode → AnswerCode → SketchAsking → Answer → SketchAsking → Type 0
Answers told told' a answer b = (b ≡ a)
    × IsTold told told' (length (pairs_at a.step)) (answer_at_hand a.number a.step) answer

-- entries as numbers
abbrev pub codes_of : List Entry → List EntryCode
codes_of entries = map (λ e. record { item = e.index; value = e.value }) entries

-- These pairs from a place on are in front, as many as there are and there is room for.
abbrev pub AreCopied : List Entry → ℕ → List EntryCode → List EntryCode → ℕ → Type 0
AreCopied pairs from to to' count = (count ≡ min (length to) (length pairs - from))
    × (to' ≡ codes_of (take count (drop from pairs)) ++ drop count to)

-- those of the answer
abbrev pub Copies : ℕ → List EntryCode → List EntryCode → ℕ → ℕ → SketchAsking → Answer
    → SketchAsking → Type 0
Copies from to to' count count' a answer b =
    (answer ≡ Ok tt) × (b ≡ a) × AreCopied (pairs_at a.step) from to to' count'
