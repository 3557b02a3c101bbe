-- How far a talk is that goes on.
use Rattle.std.specs.Prelude.{◌≡◌, ℕ, ◌+◌, ◌*◌, ◌≤◌, false, List, length, Option}
use Rattle.sip_ports.specs.declared.port.TalkEvent.{TalkEvent}
use Rattle.sip_ports.specs.Ports.{GoesOn, heard}
use Rattle.sip_wire.specs.Table.{longest_frame}
use Rattle.sip_helper.specs.inside.Measures.{most_turns}
use Rattle.sip_helper.specs.Rules.{AreTurnsBy, TurnRules, Turn, state_after_by, turns_talk_by}

-- The turns so far, none of them a farewell, and the room that is left for the offset; `left` is
-- how many turns are left at most, and `before` how many bytes were received before these.
pub record UnderWay {S : Type 0} (r : TurnRules S) (left : S → ℕ) (first : S) (before : ℕ)
    (start now : Option (List TalkEvent)) (s : S) (offset : ℕ) : Type 0 where
  pub turns : List Turn
  pub are : AreTurnsBy r first turns
  pub state : s ≡ state_after_by r first turns
  pub going : r.is_done s ≡ false
  pub talk : GoesOn start now (turns_talk_by r first turns)
  pub at : offset ≡ before + length (heard (turns_talk_by r first turns))
  pub room : offset + longest_frame * left s ≤ before + longest_frame * most_turns
