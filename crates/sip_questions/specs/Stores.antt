-- What a helper of questions with a store of its own does on a link.
--
-- Behind the opening one message may come but a Bye: it says how many records are to be heard. The
-- first so many records of the store are heard, or all where it has fewer, as updates and then the
-- end of the stream, and what they come to goes out. From there on the talk is one of questions.
-- The store is read behind that message, and where it can't be, nothing more is said. Where large
-- entries are asked for, it is read once more for the sizes of the deltas: they are those of
-- records that come to the same, or where no delta is below 0 of the first ones, or none are known.
use Rattle.std.specs.Prelude.{◌≡◌, ◌⊎◌, ℕ, ◌<◌, Bool, true, false, is_none, List, [], ◌∷◌, ◌++◌}
use Rattle.std.specs.Prelude.{IfSome, length, map, take, Option, Some, None, Result, Ok, Err}
use Rattle.sip_ports.specs.declared.port.PortStop.{PortStop}
use Rattle.sip_ports.specs.declared.port.TalkEvent.{TalkEvent}
use Rattle.sip_ports.specs.Ports.{GoesOn, ins, outs}
use Rattle.sip_stream.specs.declared.form.Form.{Form}
use Rattle.sip_vector.specs.Splits.{absolute}
use Rattle.sip_vector.specs.declared.tally.Tally.{Tally}
use Rattle.sip_vector.specs.declared.update.Update.{Update}
use Rattle.sip_vector.specs.Tallies.{negatives, tally}
use Rattle.sip_wire.specs.declared.kind.Place.TheVariants as places
use Rattle.sip_wire.specs.declared.message.Message.{Message}
use Rattle.sip_wire.specs.declared.message.Message.TheVariants as messages
use Rattle.sip_wire.specs.declared.version.Version.{Version}
use Rattle.sip_helper.specs.declared.status.HelpStatus.{HelpStatus}
use Rattle.sip_helper.specs.declared.status.HelpStatus.TheVariants as helps
use Rattle.sip_helper.specs.OneTurn.{StopsTurn}
use Rattle.sip_helper.specs.Rules.{EndsAs, ServesOn, TurnRules}
use Rattle.sip_helper.specs.Statuses.{status_of_stop}
use Rattle.sip_helper.specs.Streams.{stream_heard}
use Rattle.sip_helper.specs.Turns.{HelperState, version_opened}
use Rattle.sip_questions.specs.declared.recalling.Recalling.{Recalling}
use Rattle.sip_questions.specs.declared.store_status.StoreStatus.{StoreStatus}
use Rattle.sip_questions.specs.declared.store_status.StoreStatus.TheVariants as statuses
use Rattle.sip_questions.specs.Serving.{QuestionHelper, fresh_questions, question_rules, step}
use Rattle.sip_questions.specs.StoreFronts.{Hears, IsOpening, IsUnheard, Recalls, asked_for}
use Rattle.sip_questions.specs.StoreFronts.{held_frame, held_of, opening}

-- ---- the message behind the opening

-- it is awaited in a version
abbrev pub awaiting : Version → Recalling
awaiting version = record { version = version; count = None; done = false }

-- how many records are to be heard may be said once, and a Bye may come
abbrev pub may_recall : Recalling → Message → Bool
may_recall s (messages.Recall count) = is_none s.count
may_recall s messages.Bye = true
may_recall s _ = false

abbrev pub recall_step : Recalling → Message → Recalling
recall_step s (messages.Recall count) = record s { count = Some count }
recall_step s messages.Bye = record s { done = true }
recall_step s _ = s

-- nothing is owed to it by these rules: what is, is said when the records were heard
abbrev pub recall_rules : TurnRules Recalling
recall_rules = record {
  version = λ s. s.version;
  place = λ s. places.AskedQuestion;
  is_allowed = may_recall;
  step = λ s refused m. recall_step s m;
  owed = λ s. [];
  after_answer = λ s. s;
  farewell = messages.Bye;
  is_done = λ s. s.done;
}

-- what has heard the sizes of records, where they were read again
abbrev pub sizes_heard : ℕ → ℕ → Option (List Update) → Option HelperState
sizes_heard number depth None = None
sizes_heard number depth (Some us) = Some (stream_heard number depth (map absolute us ∷ []))

-- The helper that has heard records at a depth, and their end: it has their vectors, and those of
-- the sizes of what was read again. In how many pieces they were heard is not seen of it.
abbrev pub store_heard : ℕ → ℕ → List Update → Option (List Update) → QuestionHelper
store_heard number depth us again = record fresh_questions {
  helper = stream_heard number depth (us ∷ []);
  again = sizes_heard number depth again;
}

-- behind the opening, whether memory was refused or not
abbrev pub questions_opened : Recalls → Bool → QuestionHelper
questions_opened r refused = step fresh_questions refused (messages.Open r.number r.depth)

-- the front that is asked for was heard, and its end, and this is told of it
abbrev pub HearsStore : Recalls → Form → Option (List ℕ) → Option (List ℕ) → QuestionHelper
    → Result Tally StoreStatus → Type 0
HearsStore r form store left next (Ok told) =
    (us : List Update) × Hears r form store left us
    × (next ≡ store_heard r.number r.depth us None) × (told ≡ tally us)
HearsStore r form store left next (Err status) = IsUnheard r form store status

-- ---- the talk

-- the status of a talk that ended so
abbrev pub status_of : HelpStatus → StoreStatus
status_of helps.Served = statuses.Served
status_of (helps.BadFrame offset) = statuses.BadFrame offset
status_of helps.PeerClosed = statuses.PeerClosed
status_of helps.PeerFault = statuses.PeerFault
status_of helps.OutOfMemory = statuses.OutOfMemory

-- The talk ends with its second message: it says how many records are to be heard, or is a Bye, or
-- may not come.
pub record StopsAtRecall (old new : Option (List TalkEvent)) (how : HelpStatus) : Type 0 where
  pub number : ℕ
  pub depth : ℕ
  pub opened : IsOpening number depth
  pub rest : List TalkEvent
  pub talk : GoesOn old new (ins (opening number depth) ++ rest)
  pub ends : EndsAs recall_rules (awaiting (version_opened number))
      (length (opening number depth)) rest how

-- no delta is below 0
abbrev pub IsUnsigned : List Update → Type 0
IsUnsigned us = negatives us ≡ record { first = false; second = false }

-- A store was read again: the records come to the same as those that were heard first. Large
-- entries are weighed by the sizes of what was read, or of what was heard where no delta is below
-- 0.
pub record IsReread (r : Recalls) (form : Form) (again unread : Option (List ℕ))
    (us more : List Update) : Type 0 where
  pub read : List Update
  pub hears : Hears r form again unread read
  pub same : held_of read ≡ held_of us
  pub weighs : (more ≡ read) ⊎ ((more ≡ us) × IsUnsigned us)

-- What is asked is answered by records, of which so many bytes were received before.
pub record AnswersBy (r : Recalls) (us : List Update) (form : Form) (again unread : Option (List ℕ))
    (old new : Option (List TalkEvent)) (how : HelpStatus) : Type 0 where
  pub more : Option (List Update)
  pub reread : IfSome more (IsReread r form again unread us)
  pub serves : ServesOn question_rules (store_heard r.number r.depth us more)
      (length (asked_for r)) old new how

-- Over a store that has these bytes, and then those that are left; the same as it is read again;
-- and a link that told `old` and tells `new`.
module _ (form : Form) (store left again left_again : Option (List ℕ))
    (old new : Option (List TalkEvent)) (status : StoreStatus) where
  -- it ends with the first or the second message, and nothing of the store was read
  pub record EndsUnasked : Type 0 where
    pub how : HelpStatus
    pub same : status ≡ status_of how
    pub unread : left ≡ store
    pub stops : StopsTurn question_rules old new fresh_questions 0 how ⊎ StopsAtRecall old new how

  -- it ends while the records are heard: nothing was sent
  pub record EndsUnheard : Type 0 where
    pub recalls : Recalls
    pub talk : GoesOn old new (ins (asked_for recalls))
    pub why : IsUnheard recalls form store status

  -- what they come to is cut short
  pub record EndsAtHeld : Type 0 where
    pub recalls : Recalls
    pub us : List Update
    pub hears : Hears recalls form store left us
    pub stop : PortStop
    pub same : status ≡ status_of (status_of_stop stop)
    pub sent : ℕ
    pub short : sent < length (held_frame recalls us)
    pub talk : GoesOn old new (ins (asked_for recalls) ++ outs (take sent (held_frame recalls us)))

  -- it goes out, and what is asked is answered by the records
  pub record AnswersOn : Type 0 where
    pub recalls : Recalls
    pub us : List Update
    pub hears : Hears recalls form store left us
    pub between : Option (List TalkEvent)
    pub talk : GoesOn old between (ins (asked_for recalls) ++ outs (held_frame recalls us))
    pub how : HelpStatus
    pub same : status ≡ status_of how
    pub serves : AnswersBy recalls us form again left_again between new how

  -- Where it ended, and by which status.
  abbrev pub ServesStore : Type 0
  ServesStore = EndsUnasked ⊎ EndsUnheard ⊎ EndsAtHeld ⊎ AnswersOn
