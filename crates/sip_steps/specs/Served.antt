-- A helper's end of a talk without a link: what its bytes so far are.
use Rattle.std.specs.Prelude.{◌≡◌, ℕ, ◌<◌, ◌≤◌, Bool, List, [], ◌∷◌, ◌++◌, IsTrue, length, Option}
use Rattle.std.specs.Prelude.{Some, None, is_none, if◌then◌else◌}
use Rattle.sip_ports.specs.declared.port.TalkEvent.{TalkEvent}
use Rattle.sip_ports.specs.declared.port.TalkEvent.TheVariants.{Ended}
use Rattle.sip_ports.specs.Ports.{GoesOn, heard, ins, outs, written}
use Rattle.sip_wire.specs.declared.kind.Place.{Place}
use Rattle.sip_wire.specs.declared.version.Version.{Version}
use Rattle.sip_wire.specs.Frames.{frame_bytes}
use Rattle.sip_wire.specs.Spelling.{asked}
use Rattle.sip_wire.specs.Taking.{room_for}
use Rattle.sip_helper.specs.declared.status.HelpStatus.{HelpStatus}
use Rattle.sip_helper.specs.Rules.{ServesBy, TurnRules}
use Rattle.sip_helper.specs.UnderWay.{UnderWay}
use Rattle.sip_steps.specs.declared.coming.Coming.{Coming}
use Rattle.sip_steps.specs.declared.serving.Serving.{Serving}

-- Behind these events came a part of a frame, which is not looked at again before so many more bytes
-- came as it lacks.
pub record IsComing (version : Version) (place : Place) (before events : List TalkEvent)
    (c : Coming) : Type 0 where
  pub last : events ≡ before ++ ins (frame_bytes c.frame)
  pub short : length (frame_bytes c.frame) < asked version place (frame_bytes c.frame)
  pub lacks : c.lacking ≤ room_for version place (frame_bytes c.frame)

module _ {H : Type 0} (r : TurnRules H) (left : H → ℕ) (is_live : H → Bool) (first : H) where
  -- These events are those at the start, in which `at` bytes were received, then whole turns, each
  -- with its reply, and behind them a part of a frame.
  pub record Goes (at : ℕ) (start events : List TalkEvent) (helper : H)
      (c : Coming) : Type 0 where
    pub before : List TalkEvent
    pub turns : UnderWay r left first at (Some start) (Some before) helper c.offset
    pub live : IsTrue (is_live helper)
    pub part : IsComing (r.version helper) (r.place helper) before events c

  module _ (events : List TalkEvent) where
    -- by how the talk ended, where it did
    abbrev pub IsServedBy : Serving H → Option HelpStatus → Type 0
    IsServedBy s None = Goes 0 [] events s.helper s.coming
    IsServedBy s (Some status) = ServesBy r first (Some []) (Some events) status

    -- These events are a talk of the helper's rules, as far as it is: as they are on a link.
    abbrev pub IsServed : Serving H → Type 0
    IsServed s = IsServedBy s s.status

-- It was begun, and nothing but its own calls changed it.
abbrev pub HasBegun : {H : Type 0} → TurnRules H → (H → ℕ) → (H → Bool) → Serving H → Type 0
HasBegun {H} r left is_live s = (first : H) × (events : List TalkEvent)
    × IsServed r left is_live first events s

-- Behind earlier events come more: these bytes came, and what was sent went out to where `old` and
-- `new` are told. `After` says what the events with them are.
pub record Passes (old new : Option (List TalkEvent)) (took : List ℕ) (events : List TalkEvent)
    (After : List TalkEvent → Type 0) : Type 0 where
  pub more : List TalkEvent
  pub came : heard more ≡ took
  pub went : GoesOn old new (outs (written more))
  pub after : After (events ++ more)

-- that the other end had closed, where the talk had not ended
abbrev pub end_seen : {T : Type 0} → Option T → List TalkEvent
end_seen status = if is_none status then Ended ∷ [] else []
