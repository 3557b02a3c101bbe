-- What a helper of queries does on a link: its turns are the rules, each of its messages stands
-- where one to a helper is awaited, and its farewell is a Bye. Frames are in the version of the
-- opening, and in version 1 up to it.
use Rattle.std.specs.Prelude.{ℕ, List, Option}
use Rattle.sip_ports.specs.declared.port.TalkEvent.{TalkEvent}
use Rattle.sip_wire.specs.declared.kind.Place.TheVariants as places
use Rattle.sip_wire.specs.declared.message.Message.{Message}
use Rattle.sip_wire.specs.declared.message.Message.TheVariants as messages
use Rattle.sip_wire.specs.declared.version.Version.{Version}
use Rattle.sip_helper.specs.declared.status.HelpStatus.{HelpStatus}
use Rattle.sip_helper.specs.Rules.{AreTurnsBy, EndsAs, IsCutShortBy, IsFramePartAt, IsMessageAt}
use Rattle.sip_helper.specs.Rules.{IsNoFrameAt, IsRefusalCutBy, IsRefusedBy, IsReplyCutBy, IsTurnBy}
use Rattle.sip_helper.specs.Rules.{TurnRules, ServesBy, after_turn_by, heard_by, state_after_by}
use Rattle.sip_helper.specs.Rules.{turn_talk_by, turns_talk_by}
use Rattle.sip_helper.specs.Turns.{HelperState, after_answer, fresh, is_allowed, owed, step}
pub use Rattle.sip_helper.specs.Rules.{Turn}

abbrev pub helper_rules : TurnRules HelperState
helper_rules = record {
  version = λ s. s.version;
  place = λ _. places.ToHelper;
  is_allowed = is_allowed;
  step = step;
  owed = owed;
  after_answer = after_answer;
  farewell = messages.Bye;
  is_done = λ s. s.done;
}

-- ---- turns, by these rules

-- a message that a frame to the helper spells in a version
abbrev pub IsMessage : Version → Message → Type 0
IsMessage version m = IsMessageAt places.ToHelper version m

abbrev pub heard_in : HelperState → Turn → HelperState
heard_in = heard_by helper_rules

abbrev pub after_turn : HelperState → Turn → HelperState
after_turn = after_turn_by helper_rules

abbrev pub turn_talk : HelperState → Turn → List TalkEvent
turn_talk = turn_talk_by helper_rules

abbrev pub state_after : HelperState → List Turn → HelperState
state_after = state_after_by helper_rules

abbrev pub turns_talk : HelperState → List Turn → List TalkEvent
turns_talk = turns_talk_by helper_rules

abbrev pub IsTurn : HelperState → Turn → Type 0
IsTurn = IsTurnBy helper_rules

abbrev pub AreTurns : HelperState → List Turn → Type 0
AreTurns = AreTurnsBy helper_rules

-- ---- how it stops

abbrev pub IsNoFrame : Version → List TalkEvent → Type 0
IsNoFrame = IsNoFrameAt places.ToHelper

abbrev pub IsRefused : HelperState → List TalkEvent → Type 0
IsRefused = IsRefusedBy helper_rules

abbrev pub IsFramePart : Version → List TalkEvent → List TalkEvent → Type 0
IsFramePart = IsFramePartAt places.ToHelper

abbrev pub IsReplyCut : HelperState → List TalkEvent → Type 0
IsReplyCut = IsReplyCutBy helper_rules

abbrev pub IsRefusalCut : HelperState → List TalkEvent → Type 0
IsRefusalCut = IsRefusalCutBy helper_rules

abbrev pub IsCutShort : HelperState → List TalkEvent → Type 0
IsCutShort = IsCutShortBy helper_rules

abbrev pub EndsBy : HelperState → ℕ → List TalkEvent → HelpStatus → Type 0
EndsBy = EndsAs helper_rules

-- The turns of a talk, none of them a farewell, and how it ends by a status.
abbrev pub Serves : Option (List TalkEvent) → Option (List TalkEvent) → HelpStatus → Type 0
Serves = ServesBy helper_rules fresh
