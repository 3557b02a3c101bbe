-- What a helper of lookups does on a link.
--
-- It hears a stream as a helper of queries does. Behind the stream a lookup is asked, or the talk
-- ends. To a lookup it says the place of its answer, and then takes the query about the interval,
-- with its challenges, as a helper of queries does, until that is closed. Where memory was refused
-- while the stream was heard, a lookup is refused, and the next may be asked.
use Rattle.std.specs.Prelude.{ℕ, ◌+◌, ◌^◌, Bool, true, false, ◌&&◌, ◌==◌, nat_lt, is_some, List, []}
use Rattle.std.specs.Prelude.{◌∷◌, Option, Some, None, if◌then◌else◌}
use Rattle.std.specs.List.{flat_map}
use Rattle.sip_ports.specs.declared.port.TalkEvent.{TalkEvent}
use Rattle.sip_vector.specs.declared.update.Side.TheVariants.{First}
use Rattle.sip_vector.specs.Vectors.{SideVector}
use Rattle.sip_wire.specs.declared.kind.Place.{Place}
use Rattle.sip_wire.specs.declared.kind.Place.TheVariants as places
use Rattle.sip_wire.specs.declared.message.Message.{Message}
use Rattle.sip_wire.specs.declared.message.Message.TheVariants as messages
use Rattle.sip_wire.specs.Spelling.{spelling}
use Rattle.sip_helper.specs.declared.status.HelpStatus.{HelpStatus}
use Rattle.sip_helper.specs.KindRows.{refusal, want_of_memory}
use Rattle.sip_helper.specs.Rules.{TurnRules, ServesBy}
use Rattle.sip_helper.specs.Shown.{shown_vector}
use Rattle.sip_helper.specs.Turns.{HelperState, fresh, may_hear, whole_of}
use Rattle.sip_helper.specs.Turns as turns
use Rattle.sip_wire.specs.Table.{most_queries}
use Rattle.sip_lookup.specs.declared.lookup.Lookup.{Lookup}
use Rattle.sip_lookup.specs.declared.lookup.Lookup.TheVariants.{Index, Pred, Succ}
use Rattle.sip_lookup.specs.declared.serving.Stage.{Stage}
use Rattle.sip_lookup.specs.declared.serving.Stage.TheVariants.{Due, Asked, Found}
use Rattle.sip_lookup.specs.Frames.{found_message}
use Rattle.sip_lookup.specs.Lookups.{honest_found}

-- ---- the state

-- what was heard of the stream, and of the queries; how many lookups were asked, how far the one
-- under way is, and whether the talk is over
pub record LookHelper : Type 0 where
  pub helper : HelperState
  pub asked : ℕ
  pub stage : Stage
  pub done : Bool

abbrev pub fresh_look : LookHelper
fresh_look = record { helper = fresh; asked = 0; stage = Due; done = false }

-- ---- which message may come next

-- the lookup of a code at an item
abbrev pub lookup_of : ℕ → ℕ → Option Lookup
lookup_of code item =
    if code == 1 then Some (Index item)
    else if code == 2 then Some (Pred item)
    else if code == 3 then Some (Succ item)
    else None

-- a lookup may be asked of a stream of this depth, behind so many
abbrev pub may_look : ℕ → ℕ → ℕ → ℕ → Bool
may_look depth asked code item =
    nat_lt asked most_queries && nat_lt item (2 ^ depth) && is_some (lookup_of code item)

-- what may come where a lookup is due, or the end
abbrev pub may_question : ℕ → ℕ → Message → Bool
may_question depth asked (messages.AskLook code item) = may_look depth asked code item
may_question depth asked messages.End = true
may_question depth asked _ = false

-- the place of the next frame: behind the stream, where no lookup is under way, one is due
abbrev pub place_due : LookHelper → Place
place_due s = elim s.stage [
  | Due ↦ elim (whole_of s.helper.heard) [ Some depth ↦ places.AskedLook | None ↦ places.ToHelper ]
  | _ ↦ places.ToHelper
]

abbrev pub is_allowed : LookHelper → Message → Bool
is_allowed s m = elim s.stage [
  | Due ↦ elim (whole_of s.helper.heard) [
    | Some depth ↦ may_question depth s.asked m
    | None ↦ may_hear s.helper m
  ]
  | Asked l ↦ false
  | Found ↦ may_hear s.helper m
]

-- ---- what it does

-- the state after a message that may come next, by whether memory is refused for it
abbrev pub step : LookHelper → Bool → Message → LookHelper
step s refused (messages.AskLook code item) = record s {
  asked = s.asked + 1;
  stage = elim (lookup_of code item) [ Some l ↦ Asked l | None ↦ Due ];
}
step s refused messages.End = record s { done = true }
step s refused m = record s { helper = turns.step s.helper refused m }

-- ---- the reply that is owed

-- the reply to a lookup: the place of its answer, or the refusal for want of memory
abbrev pub reply_to_look : Option SideVector → Lookup → List Message
reply_to_look None l = refusal want_of_memory
reply_to_look (Some v) l = found_message (honest_found v.numbers l) ∷ []

abbrev pub owes : LookHelper → Bool
owes s = elim s.stage [ Due ↦ false | Asked l ↦ true | Found ↦ turns.owes s.helper ]

-- the messages of the reply that is owed
abbrev pub owed_messages : LookHelper → List Message
owed_messages s = elim s.stage [
  | Due ↦ []
  | Asked l ↦ reply_to_look (shown_vector s.helper First) l
  | Found ↦ turns.owed_messages s.helper
]

-- its bytes
abbrev pub owed : LookHelper → List ℕ
owed s = flat_map (spelling s.helper.version) (owed_messages s)

-- how far the lookup is once its reply was given: a place awaits its query, and a refusal closes it
abbrev pub stage_behind : Option SideVector → Stage
stage_behind None = Due
stage_behind (Some v) = Found

-- once a reply about the interval was given: the query is still open, or the lookup is closed
abbrev pub with_answer : LookHelper → HelperState → LookHelper
with_answer s helper =
    record s { helper = helper; stage = if is_some helper.open_query then Found else Due }

-- the state once the reply that is owed was given
abbrev pub after_reply : LookHelper → LookHelper
after_reply s = elim s.stage [
  | Due ↦ s
  | Asked l ↦ record s { stage = stage_behind (shown_vector s.helper First) }
  | Found ↦ with_answer s (turns.after_answer s.helper)
]

abbrev pub after_answer : LookHelper → LookHelper
after_answer s = if owes s then after_reply s else s

-- ---- on a link

abbrev pub look_rules : TurnRules LookHelper
look_rules = record {
  version = λ s. s.helper.version;
  place = place_due;
  is_allowed = is_allowed;
  step = step;
  owed = owed;
  after_answer = after_answer;
  farewell = messages.End;
  is_done = λ s. s.done;
}

-- The turns of a talk of lookups, none of them its end, and how it ends by a status.
abbrev pub ServesLooks : Option (List TalkEvent) → Option (List TalkEvent) → HelpStatus → Type 0
ServesLooks = ServesBy look_rules fresh_look
