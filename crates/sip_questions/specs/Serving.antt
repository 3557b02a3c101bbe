-- What a helper of questions does on a link.
--
-- It hears a stream as a helper of queries does. Behind the stream, where nothing is open, a query,
-- a lookup, a moment or large entries may be asked, each in the turns of its kind. Large entries
-- are one of the queries: they are answered where the sizes of the deltas were read of a store
-- again, and else refused for want of memory. A lookup is answered by the place that was found, and
-- opens nothing: the query about the interval is one as any other. The talk ends with a Bye, which
-- may come at any time.
use Rattle.std.specs.Prelude.{ℕ, ◌+◌, Bool, true, false, not, ◌&&◌, nat_lt, is_none, is_some, List}
use Rattle.std.specs.Prelude.{[], Option, Some, None, if◌then◌else◌}
use Rattle.std.specs.List.{flat_map}
use Rattle.sip_ports.specs.declared.port.TalkEvent.{TalkEvent}
use Rattle.sip_vector.specs.declared.query.Query.{Query}
use Rattle.sip_vector.specs.declared.query.Query.TheVariants as queries
use Rattle.sip_vector.specs.declared.update.Side.{Side}
use Rattle.sip_vector.specs.declared.update.Side.TheVariants.{First}
use Rattle.sip_vector.specs.Vectors.{SideVector}
use Rattle.sip_wire.specs.declared.kind.Place.TheVariants as places
use Rattle.sip_wire.specs.declared.message.Message.{Message}
use Rattle.sip_wire.specs.declared.message.Message.TheVariants as messages
use Rattle.sip_wire.specs.declared.version.Version.{Version}
use Rattle.sip_wire.specs.declared.version.Version.TheVariants.{One, Two}
use Rattle.sip_wire.specs.Spelling.{spelling}
use Rattle.sip_wire.specs.Table.{most_queries}
use Rattle.sip_helper.specs.declared.status.HelpStatus.{HelpStatus}
use Rattle.sip_helper.specs.Rules.{TurnRules, ServesBy}
use Rattle.sip_helper.specs.Shown.{counted, shown_vector}
use Rattle.sip_helper.specs.Turns.{HelperState, depth_of, fresh, whole_of}
use Rattle.sip_helper.specs.Turns as turns
use Rattle.sip_above.specs.Serving as larges
use Rattle.sip_above.specs.Serving.{OpenLarge, Weighed}
use Rattle.sip_lookup.specs.declared.lookup.Lookup.{Lookup}
use Rattle.sip_lookup.specs.Serving.{lookup_of, may_look, reply_to_look}
use Rattle.sip_moments.specs.Serving.{MomentHelper, OpenMoment, may_ask, may_follow}
use Rattle.sip_moments.specs.Serving as moments

-- what was heard of the stream and of queries; how many lookups and moments were asked; the lookup
-- whose place is owed, and the moment that is open; what was heard of the sizes of the deltas,
-- where a store was read again, and the question for large entries that is open
pub record QuestionHelper : Type 0 where
  pub helper : HelperState
  pub lookups : ℕ
  pub sought : Option Lookup
  pub moments : ℕ
  pub moment : Option OpenMoment
  pub again : Option HelperState
  pub large : Option OpenLarge

abbrev pub fresh_questions : QuestionHelper
fresh_questions = record {
  helper = fresh;
  lookups = 0;
  sought = None;
  moments = 0;
  moment = None;
  again = None;
  large = None;
}

-- a side as it is shown by its entries and by their weights, where both are there
abbrev pub both_shown : Option SideVector → Option SideVector → Option Weighed
both_shown (Some v) (Some w) =
    Some (record { depth = v.depth; values = v.numbers; weights = w.numbers })
both_shown _ _ = None

-- a side of a stream by the sizes of its deltas too, where they were heard
abbrev pub weighed : HelperState → Option HelperState → Side → Option Weighed
weighed helper None side = None
weighed helper (Some again) side =
    both_shown (shown_vector helper side) (shown_vector again side)

-- the same, as a helper of moments has it
abbrev pub as_moments : QuestionHelper → MomentHelper
as_moments s =
    record { helper = s.helper; asked = s.moments; question = s.moment; done = s.helper.done }

abbrev pub with_moments : QuestionHelper → MomentHelper → QuestionHelper
with_moments s m = record s { moments = m.asked; moment = m.question }

-- the version is 2
abbrev pub is_two : Version → Bool
is_two One = false
is_two Two = true

-- ---- which message may come next

-- the depth of a stream that has ended, where nothing is open
abbrev pub idle_depth : QuestionHelper → Option ℕ
idle_depth s =
    if is_none s.helper.open_query && (is_none s.moment && is_none s.large)
    then whole_of s.helper.heard else None

-- a message that asks for nothing of these kinds: while a moment or large entries are open a
-- challenge alone
abbrev pub may_hear : QuestionHelper → Message → Bool
may_hear s m = elim s.large [
  | Some o ↦ larges.may_follow (depth_of s.helper.heard) o m
  | None ↦ elim s.moment [
    | Some o ↦ may_follow (depth_of s.helper.heard) o m
    | None ↦ turns.is_allowed s.helper m
  ]
]

-- large entries may be asked for, as one of the queries, in version 2
abbrev pub may_pose : QuestionHelper → Bool
may_pose s = is_some (idle_depth s) && nat_lt s.helper.queries most_queries
    && is_two s.helper.version

-- a query may be asked
abbrev pub may_query : QuestionHelper → Query → Bool
may_query s (queries.Above side at_least) = may_pose s
may_query s query = may_hear s (messages.Query query)

abbrev pub is_allowed : QuestionHelper → Message → Bool
is_allowed s messages.Bye = true
is_allowed s (messages.AskLook code item) = elim (idle_depth s) [
  | Some depth ↦ may_look depth s.lookups code item
  | None ↦ false
]
is_allowed s (messages.AskMoment side degree) =
    is_some (idle_depth s) && may_ask (as_moments s) side degree
is_allowed s (messages.Query query) = may_query s query
is_allowed s m = may_hear s m

-- the depth of the stream, where large entries are asked for in version 2 and nothing is open
abbrev pub above_depth : QuestionHelper → Message → Option ℕ
above_depth s (messages.Query (queries.Above side at_least)) =
    if is_two s.helper.version then idle_depth s else None
above_depth s m = None

-- ---- what it does

-- a challenge goes to what is open
abbrev pub revealed : QuestionHelper → Bool → ℕ → QuestionHelper
revealed s refused r = elim s.large [
  | Some o ↦ record s { large = Some (larges.with_challenge r o) }
  | None ↦ elim s.moment [
    | Some o ↦ with_moments s (moments.step (as_moments s) refused (messages.Reveal r))
    | None ↦ record s { helper = turns.step s.helper refused (messages.Reveal r) }
  ]
]

-- a query is asked
abbrev pub queried : QuestionHelper → Bool → Query → QuestionHelper
queried s refused (queries.Above side at_least) =
    record s {
      helper = counted s.helper;
      large = Some (larges.newly_asked (record { side = side; at_least = at_least }) refused);
    }
queried s refused query =
    record s { helper = turns.step s.helper refused (messages.Query query) }

-- the state after a message that may come next, by whether memory is refused for it
abbrev pub step : QuestionHelper → Bool → Message → QuestionHelper
step s refused (messages.AskLook code item) =
    record s { lookups = s.lookups + 1; sought = lookup_of code item }
step s refused (messages.AskMoment side degree) =
    with_moments s (moments.step (as_moments s) refused (messages.AskMoment side degree))
step s refused (messages.Reveal r) = revealed s refused r
step s refused (messages.Query query) = queried s refused query
step s refused m = record s { helper = turns.step s.helper refused m }

-- ---- the reply that is owed

-- a reply is owed
abbrev pub owes : QuestionHelper → Bool
owes s = elim s.sought [
  | Some l ↦ true
  | None ↦ elim s.large [
    | Some o ↦ not o.given
    | None ↦ elim s.moment [
      | Some o ↦ moments.owes (as_moments s)
      | None ↦ turns.owes s.helper
    ]
  ]
]

-- the messages that are owed about large entries
abbrev pub large_messages : QuestionHelper → OpenLarge → List Message
large_messages s o =
    if o.given then [] else larges.reply_to (weighed s.helper s.again o.large.side) o

-- the messages of the reply that is owed: the place of a lookup, or what the open question is owed
abbrev pub owed_messages : QuestionHelper → List Message
owed_messages s = elim s.sought [
  | Some l ↦ reply_to_look (shown_vector s.helper First) l
  | None ↦ elim s.large [
    | Some o ↦ large_messages s o
    | None ↦ elim s.moment [
      | Some o ↦ moments.owed_messages (as_moments s)
      | None ↦ turns.owed_messages s.helper
    ]
  ]
]

-- its bytes
abbrev pub owed : QuestionHelper → List ℕ
owed s = flat_map (spelling s.helper.version) (owed_messages s)

-- the state once the reply that is owed was given: a place, or a refusal of it, opens nothing
abbrev pub after_answer : QuestionHelper → QuestionHelper
after_answer s = elim s.sought [
  | Some l ↦ record s { sought = None }
  | None ↦ elim s.large [
    | Some o ↦ record s {
      large = larges.after_reply (depth_of s.helper.heard)
          (weighed s.helper s.again o.large.side) o;
    }
    | None ↦ elim s.moment [
      | Some o ↦ with_moments s (moments.after_answer (as_moments s))
      | None ↦ record s { helper = turns.after_answer s.helper }
    ]
  ]
]

-- ---- on a link

abbrev pub question_rules : TurnRules QuestionHelper
question_rules = record {
  version = λ s. s.helper.version;
  place = λ s. places.AskedQuestion;
  is_allowed = is_allowed;
  step = step;
  owed = owed;
  after_answer = after_answer;
  farewell = messages.Bye;
  is_done = λ s. s.helper.done;
}

-- The turns of a talk of questions, none of them its end, and how it ends by a status.
abbrev pub ServesQuestions : Option (List TalkEvent) → Option (List TalkEvent) → HelpStatus → Type 0
ServesQuestions = ServesBy question_rules fresh_questions
