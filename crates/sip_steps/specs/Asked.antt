-- A question that is asked without a link: what its bytes so far are a talk of.
use Rattle.std.specs.Prelude.{◌≡◌, ◌≤◌, ℕ, true, List, [], ◌∷◌, IsTrue, take, if◌then◌else◌}
use Rattle.sip_ports.specs.declared.port.TalkEvent.{TalkEvent}
use Rattle.sip_ports.specs.declared.port.TalkEvent.TheVariants.{Ended}
use Rattle.sip_vector.specs.declared.update.Entry.{Entry}
use Rattle.sip_wire.specs.declared.message.Message.{Message}
use Rattle.sip_wire.specs.Frames.{frame_bytes}
use Rattle.sip_wire.specs.Spelling.{fits, spelling}
use Rattle.sip_wire.specs.Taking.{room_for}
use Rattle.sip_replies.specs.declared.check.Said.TheVariants as saids
use Rattle.sip_replies.specs.declared.turn.Stage.{Stage}
use Rattle.sip_replies.specs.declared.turn.Stage.TheVariants as stages
use Rattle.sip_replies.specs.Feeding.{IsFed}
use Rattle.sip_replies.specs.Following.{IsAt, due_message, is_due, is_hearing, is_open}
use Rattle.sip_replies.specs.Protocols.{Phase, Protocol}
use Rattle.sip_steps.specs.declared.asking.Asking.{Asking}

-- the bytes that are to be sent
abbrev pub due_bytes : {C Q : Type 0} → (Q → Message) → Asking C Q → List ℕ
due_bytes message a = if is_due a.turn.stage
    then spelling a.turn.version (due_message (message a.request) a.turn.stage) else []

-- that the other end had closed, where bytes were to come
abbrev pub end_heard : Stage → List TalkEvent
end_heard stage = if is_hearing stage then Ended ∷ [] else []

-- the pairs that are said, of these places
abbrev pub pairs_of : Stage → List Entry → List Entry
pairs_of (stages.Said (saids.Pairs found)) places = take found places
pairs_of _ places = []

-- These events are a talk of what is asked, as far as the turn is. The last bytes may be a part of
-- a frame, which is not looked at again before so many more came as it lacks. `stands` says of a
-- state that a check and its places stand for it.
pub record IsAsked {C Q S : Type 0} (P : Protocol S) (stands : S → C → List Entry → Type 0)
    (phase : C → Phase) (message : Q → Message) (request : Message) (block : List ℕ)
    (events : List TalkEvent) (a : Asking C Q) : Type 0 where
  pub asks : message a.request ≡ request
  pub spelled : IsTrue (fits a.turn.version request)
  pub fed : IsFed P request block events (λ s. stands s a.check a.places.items) a.places.items
      a.turn (frame_bytes a.frame)
  pub at : is_open a.turn.stage ≡ true → IsAt a.turn (phase a.check)
  pub block_is : is_open a.turn.stage ≡ true → (phase a.check).block ≡ block
  pub lacks : is_hearing a.turn.stage ≡ true → (s : S) → stands s a.check a.places.items
      → a.lacking ≤ room_for a.turn.version (P.rules.place s) (frame_bytes a.frame)

-- It was begun, and nothing but its own calls changed it: its events are some talk of what it asks.
abbrev pub IsBegun : {C Q A S : Type 0} → (A → Protocol S) → (A → S → C → List Entry → Type 0)
    → (C → Phase) → (Q → Message) → Asking C Q → Type 0
IsBegun {A = A} protocol stands phase message a = (asked : A) × (request : Message)
    × (block : List ℕ) × (events : List TalkEvent)
    × IsAsked (protocol asked) (stands asked) phase message request block events a
