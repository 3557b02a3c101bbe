-- How a talk over a store begins, how many turns are left of its second message, and how it goes
-- on.
use Rattle.std.specs.Prelude.{◌≡◌, ◌⊎◌, ℕ, ◌≤◌, Bool, true, false, IfSome, length, map, List, []}
use Rattle.std.specs.Prelude.{◌∷◌, Option, Some, None, Result, Ok, Err}
use Rattle.sip_ports.specs.declared.port.TalkEvent.{TalkEvent}
use Rattle.sip_ports.specs.Ports.{GoesOn, ins}
use Rattle.sip_stream.specs.declared.form.Form.{Form}
use Rattle.sip_vector.specs.Splits.{absolute}
use Rattle.sip_vector.specs.Tallies.{tally}
use Rattle.sip_vector.specs.declared.tally.Tally.{Tally}
use Rattle.sip_vector.specs.declared.update.Update.{Update}
use Rattle.sip_wire.specs.declared.message.Message.{Message}
use Rattle.sip_wire.specs.declared.message.Message.TheVariants as messages
use Rattle.sip_helper.specs.declared.status.HelpStatus.{HelpStatus}
use Rattle.sip_helper.specs.inside.Measures.{most_received}
use Rattle.sip_helper.specs.OneTurn.{StopsTurn}
use Rattle.sip_helper.specs.Streams.{stream_heard}
use Rattle.sip_helper.specs.Turns.{HelperState}
use Rattle.sip_helper.specs.UnderWay.{UnderWay}
use Rattle.sip_questions.specs.declared.recalling.Recalling.{Recalling}
use Rattle.sip_questions.specs.declared.store.Asked.{Asked}
use Rattle.sip_questions.specs.Serving.{QuestionHelper, above_depth, fresh_questions}
use Rattle.sip_questions.specs.Serving.{question_rules, step}
use Rattle.sip_questions.specs.declared.sizes.Sizes.{Sizes}
use Rattle.sip_questions.specs.declared.sizes.Sizes.TheVariants.{Unheard, Deltas, Heard}
use Rattle.sip_questions.specs.inside.Keeping.{questions_left, stream_of}
use Rattle.sip_questions.specs.StoreFronts.{Hears, Recalls, asked_for, held_of}
use Rattle.sip_questions.specs.Stores.{IsReread, IsUnsigned, StopsAtRecall, store_heard}

-- by what was heard of the sizes
abbrev pub with_again : QuestionHelper → Option HelperState → QuestionHelper
with_again s w = record s { again = w }

-- how many records are to be heard is said once
abbrev pub recalls_left : Recalling → ℕ
recalls_left s = elim s.count [ None ↦ 1 | Some count ↦ 0 ]

-- the opening was heard, whether memory was refused or not, and how many records are to be heard
pub record IsAsked (old new : Option (List TalkEvent)) (next : QuestionHelper)
    (asked : Asked) : Type 0 where
  pub recalls : Recalls
  pub refused : Bool
  pub state : next ≡ step fresh_questions refused (messages.Open recalls.number recalls.depth)
  pub count : asked.count ≡ recalls.count
  pub received : asked.received ≡ length (asked_for recalls)
  pub talk : GoesOn old new (ins (asked_for recalls))

-- or the talk ended
abbrev pub OpensStore : Option (List TalkEvent) → Option (List TalkEvent) → QuestionHelper
    → Result Asked HelpStatus → Type 0
OpensStore old new next (Ok asked) = IsAsked old new next asked
OpensStore old new next (Err how) =
    StopsTurn question_rules old new fresh_questions 0 how ⊎ StopsAtRecall old new how

-- It was said what these records come to, and nothing was asked yet.
pub record IsBehind (r : Recalls) (us : List Update) (asked : Asked) (told : Tally)
    (core : QuestionHelper) : Type 0 where
  pub count : asked.count ≡ r.count
  pub received : asked.received ≡ length (asked_for r)
  pub short : asked.received ≤ most_received
  pub comes : told ≡ tally us
  pub state : core ≡ store_heard r.number r.depth us None

-- a store was read again, and the records come to these
abbrev pub IsReadTwice : Recalls → Form → Option (List ℕ) → Option (List ℕ) → List Update → Type 0
IsReadTwice r form again unread us =
    (read : List Update) × Hears r form again unread read × (held_of read ≡ held_of us)

-- and their sizes were heard
abbrev pub WeighsStore : Recalls → Form → Option (List ℕ) → Option (List ℕ) → List Update
    → HelperState → Type 0
WeighsStore r form again unread us weights =
    (read : List Update) × Hears r form again unread read × (held_of read ≡ held_of us)
    × (weights ≡ stream_heard r.number r.depth (map absolute read ∷ []))

-- what is known of the sizes then
abbrev pub AreSizes : Recalls → Form → Option (List ℕ) → Option (List ℕ) → List Update → Sizes
    → Type 0
AreSizes r form again unread us Unheard = Unit {0}
AreSizes r form again unread us Deltas = IsReadTwice r form again unread us × IsUnsigned us
AreSizes r form again unread us (Heard weights) = WeighsStore r form again unread us weights.value

-- what has heard the sizes of the deltas, by which large entries are weighed
pub record IsWeighed (r : Recalls) (form : Form) (again unread : Option (List ℕ)) (us : List Update)
    (weights : HelperState) : Type 0 where
  pub more : List Update
  pub reread : IsReread r form again unread us more
  pub is : weights ≡ stream_heard r.number r.depth (map absolute more ∷ [])

-- these records were heard, and what was asked about them since
pub record IsHeardOf (r : Recalls) (us : List Update) (asked : Asked) (told : Tally)
    (core : QuestionHelper) : Type 0 where
  pub count : asked.count ≡ r.count
  pub comes : told ≡ tally us
  pub stream : stream_of core.helper ≡ stream_heard r.number r.depth (us ∷ [])

-- behind a message: the store was not read, since large entries are not asked for, or it was tried
-- before
pub record RestsStill (again unread : Option (List ℕ)) (tried : Bool) (s : QuestionHelper)
    (m : Message) (now : Bool) (next : QuestionHelper) : Type 0 where
  pub same : next ≡ s
  pub still : now ≡ tried
  pub left : unread ≡ again
  pub out : now ≡ false → above_depth s m ≡ None

-- or it was, for the first time
pub record TriesNow (r : Recalls) (us : List Update) (form : Form)
    (again unread : Option (List ℕ)) (tried : Bool) (s : QuestionHelper) (now : Bool)
    (next : QuestionHelper) : Type 0 where
  pub first : tried ≡ false
  pub now_tried : now ≡ true
  pub weights : Option HelperState
  pub is : next ≡ with_again s weights
  pub read : IfSome weights (IsWeighed r form again unread us)

abbrev pub TriesAgain : Recalls → List Update → Form → Option (List ℕ) → Option (List ℕ) → Bool
    → QuestionHelper → Message → Bool → QuestionHelper → Type 0
TriesAgain r us form again unread tried s m now next =
    RestsStill again unread tried s m now next
    ⊎ TriesNow r us form again unread tried s now next

-- The talk goes on, whatever was heard of the sizes while large entries were not asked for, and
-- else by what was heard of them.
pub record GoesBehind (r : Recalls) (us : List Update) (form : Form)
    (again unread : Option (List ℕ)) (first : QuestionHelper) (before : ℕ)
    (start now : Option (List TalkEvent)) (tried : Bool) (s : QuestionHelper) (offset : ℕ)
    : Type 0 where
  pub under_way : (w : Option HelperState) → (tried ≡ true → w ≡ s.again)
      → UnderWay question_rules questions_left (with_again first w) before start now
      (with_again s w) offset
  pub stream : stream_of s.helper ≡ stream_heard r.number r.depth (us ∷ [])
  pub untried : tried ≡ false → (s.large ≡ None) × (s.again ≡ None) × (unread ≡ again)
  pub read : IfSome s.again (IsWeighed r form again unread us)
