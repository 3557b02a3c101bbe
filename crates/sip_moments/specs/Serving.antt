-- What a helper of moments does on a link.
--
-- It hears a stream as a helper of queries does. Behind the stream a moment is asked, or the talk
-- ends. To a moment it gives the claim and the first round polynomial, and then behind each
-- challenge the next polynomial, until the last is given. Where memory was refused, while the
-- stream was heard or at the question, it refuses, and the next may be asked.
use Rattle.std.specs.Prelude.{ℕ, ◌+◌, Bool, true, false, not, ◌&&◌, ◌||◌, ◌==◌, nat_le, nat_lt}
use Rattle.std.specs.Prelude.{is_none, is_some, List, [], ◌∷◌, ◌++◌, length, Option, Some, None}
use Rattle.std.specs.Prelude.{if◌then◌else◌}
use Rattle.std.specs.List.{flat_map}
use Rattle.std.specs.Option.{option_map}
use Rattle.sip_field.specs.Moduli.{m61_modulus}
use Rattle.sip_ports.specs.declared.port.TalkEvent.{TalkEvent}
use Rattle.sip_vector.specs.declared.update.Side.{Side}
use Rattle.sip_vector.specs.declared.update.Side.TheVariants.{First, Second}
use Rattle.sip_vector.specs.Vectors.{SideVector}
use Rattle.sip_wire.specs.declared.kind.Place.{Place}
use Rattle.sip_wire.specs.declared.kind.Place.TheVariants as places
use Rattle.sip_wire.specs.declared.message.Message.{Message}
use Rattle.sip_wire.specs.declared.message.Message.TheVariants as messages
use Rattle.sip_wire.specs.Spelling.{spelling}
use Rattle.sip_helper.specs.declared.status.HelpStatus.{HelpStatus}
use Rattle.sip_helper.specs.KindRows.{refusal, want_of_memory}
use Rattle.sip_helper.specs.Rules.{TurnRules, ServesBy}
use Rattle.sip_helper.specs.Shown.{shown_vector, weight_of}
use Rattle.sip_helper.specs.Turns.{HelperState, fresh, may_hear, whole_of}
use Rattle.sip_helper.specs.Turns as turns
use Rattle.sip_wire.specs.Table.{most_degree, most_queries}
use Rattle.sip_moments.specs.Moments.{is_too_high, least_degree}
use Rattle.sip_moments.specs.Honest.{honest_messages}

-- ---- the state

-- a moment that is open: its side and its degree, the challenges that were revealed behind it,
-- whether its last reply was given or is owed, and whether memory was refused for it
pub record OpenMoment : Type 0 where
  pub side : Side
  pub degree : ℕ
  pub revealed : List ℕ
  pub given : Bool
  pub refused : Bool

-- what was heard of the stream; how many moments were asked and which one is open, and whether the
-- talk is over
pub record MomentHelper : Type 0 where
  pub helper : HelperState
  pub asked : ℕ
  pub question : Option OpenMoment
  pub done : Bool

abbrev pub fresh_moments : MomentHelper
fresh_moments = record { helper = fresh; asked = 0; question = None; done = false }

-- ---- which message may come next

-- the side of a number
abbrev pub side_of : ℕ → Option Side
side_of number =
    if number == 0 then Some First
    else if number == 1 then Some Second
    else None

-- a moment may be asked: its side is one, its degree is from 3 to 8, a claim has room for it
-- whatever the numbers are, and few were asked before it
abbrev pub may_ask : MomentHelper → ℕ → ℕ → Bool
may_ask s side degree =
    nat_lt s.asked most_queries && nat_le least_degree degree && nat_le degree most_degree
    && elim (side_of side) [
      | Some at ↦ not (is_too_high (weight_of s.helper.weights at) degree)
      | None ↦ false
    ]

-- what may come where a moment is due, or the end
abbrev pub may_question : MomentHelper → Message → Bool
may_question s (messages.AskMoment side degree) = may_ask s side degree
may_question s messages.End = true
may_question s _ = false

-- what may come while a moment of a stream of this depth is open: a challenge, where the last reply
-- was given and a level is left above it
abbrev pub may_follow : ℕ → OpenMoment → Message → Bool
may_follow depth o (messages.Reveal r) = o.given && nat_lt (length o.revealed + 1) depth
may_follow depth o _ = false

-- the place of the next frame: behind the stream, where no moment is open, one is due
abbrev pub place_due : MomentHelper → Place
place_due s =
    if is_none s.question && is_some (whole_of s.helper.heard) then places.AskedMoment
    else places.ToHelper

abbrev pub is_allowed : MomentHelper → Message → Bool
is_allowed s m = elim (whole_of s.helper.heard) [
  | None ↦ may_hear s.helper m
  | Some depth ↦ elim s.question [ Some o ↦ may_follow depth o m | None ↦ may_question s m ]
]

-- ---- what it does

abbrev pub newly_asked : Side → ℕ → Bool → OpenMoment
newly_asked side degree refused = record {
  side = side;
  degree = degree;
  revealed = [];
  given = false;
  refused = refused;
}

abbrev pub with_challenge : ℕ → OpenMoment → OpenMoment
with_challenge r o = record o { revealed = o.revealed ++ r ∷ []; given = false }

-- the state after a message that may come next, by whether memory is refused for it
abbrev pub step : MomentHelper → Bool → Message → MomentHelper
step s refused (messages.AskMoment side degree) = record s {
  asked = s.asked + 1;
  question = option_map (λ at. newly_asked at degree refused) (side_of side);
}
step s refused messages.End = record s { done = true }
step s refused (messages.Reveal r) =
    record s { question = option_map (with_challenge r) s.question }
step s refused m = record s { helper = turns.step s.helper refused m }

-- ---- the reply that is owed

-- the messages of a reply about a moment: the refusal for want of memory, or the honest ones
abbrev pub reply_to : Option SideVector → OpenMoment → List Message
reply_to None o = refusal want_of_memory
reply_to (Some v) o =
    if o.refused then refusal want_of_memory
    else honest_messages m61_modulus o.degree v.depth v.numbers o.revealed

-- that reply is a refusal
abbrev pub is_refused : Option SideVector → OpenMoment → Bool
is_refused None o = true
is_refused (Some v) o = o.refused

abbrev pub owes : MomentHelper → Bool
owes s = elim s.question [ Some o ↦ not o.given | None ↦ false ]

-- the messages of the reply that is owed
abbrev pub owed_messages : MomentHelper → List Message
owed_messages s = elim s.question [
  | Some o ↦ if o.given then [] else reply_to (shown_vector s.helper o.side) o
  | None ↦ []
]

-- its bytes
abbrev pub owed : MomentHelper → List ℕ
owed s = flat_map (spelling s.helper.version) (owed_messages s)

-- the moment once its reply was given; a refusal and the last reply close it
abbrev pub after_reply : HelperState → OpenMoment → Option OpenMoment
after_reply helper o =
    if o.given then Some o
    else if is_refused (shown_vector helper o.side) o
    || nat_le (turns.depth_of helper.heard) (length o.revealed + 1) then None
    else Some (record o { given = true })

-- the state once the reply that is owed was given
abbrev pub after_answer : MomentHelper → MomentHelper
after_answer s = record s {
  question = elim s.question [ Some o ↦ after_reply s.helper o | None ↦ None ];
}

-- ---- on a link

abbrev pub moment_rules : TurnRules MomentHelper
moment_rules = record {
  version = λ s. s.helper.version;
  place = place_due;
  is_allowed = is_allowed;
  step = step;
  owed = owed;
  after_answer = after_answer;
  farewell = messages.End;
  is_done = λ s. s.done;
}

-- The turns of a talk of moments, none of them its end, and how it ends by a status.
abbrev pub ServesMoments : Option (List TalkEvent) → Option (List TalkEvent) → HelpStatus → Type 0
ServesMoments = ServesBy moment_rules fresh_moments
