-- The rules of a talk that a helper answers, whatever is asked in it, and what happens on a link
-- where something keeps to them.
--
-- It takes one message after another: the spelling of a message that may come is received, and the
-- reply that is owed then is sent, before more is received. It stops at a farewell, at bytes that
-- are no frame, at a message out of turn, at the end of the link, or where the link fails or memory
-- runs out.
use Rattle.std.specs.Prelude.{◌≡◌, ◌≢◌, ◌⊎◌, ℕ, ◌+◌, ◌<◌, Bool, false, IsTrue, List, [], ◌∷◌, ◌++◌}
use Rattle.std.specs.Prelude.{length, take, Option, Err}
use Rattle.sip_ports.specs.declared.port.TalkEvent.{TalkEvent}
use Rattle.sip_ports.specs.declared.port.TalkEvent.TheVariants.{Ended}
use Rattle.sip_ports.specs.Ports.{GoesOn, ins, outs, heard}
use Rattle.sip_wire.specs.declared.kind.Place.{Place}
use Rattle.sip_wire.specs.declared.message.Message.{Message}
use Rattle.sip_wire.specs.declared.message.Message.TheVariants as messages
use Rattle.sip_wire.specs.declared.message.WireFault.{WireFault}
use Rattle.sip_wire.specs.declared.message.WireFault.TheVariants as faults
use Rattle.sip_wire.specs.declared.version.Version.{Version}
use Rattle.sip_wire.specs.Faults.{IsOfBytes}
use Rattle.sip_wire.specs.Reading.{read_frame}
use Rattle.sip_wire.specs.Spelling.{fits, kind_of, spelling}
use Rattle.sip_wire.specs.Table.{allows}
use Rattle.sip_wire.specs.Values.{InRange}
use Rattle.sip_helper.specs.declared.status.HelpStatus.{HelpStatus}
use Rattle.sip_helper.specs.declared.status.HelpStatus.TheVariants.{Served, BadFrame, PeerClosed}
use Rattle.sip_helper.specs.declared.status.HelpStatus.TheVariants.{PeerFault, OutOfMemory}
use Rattle.sip_helper.specs.KindRows.{out_of_turn}

-- ---- rules

-- Over the states of what answers: the version of the next frame and the place that it has in the
-- talk; which messages may come next; the state after one, by whether memory is refused for it; the
-- bytes of the reply that is owed then, none where none is, and the state once it was given; the
-- farewell, and whether it was said.
pub record TurnRules (S : Type 0) : Type 0 where
  pub version : S → Version
  pub place : S → Place
  pub is_allowed : S → Message → Bool
  pub step : S → Bool → Message → S
  pub owed : S → List ℕ
  pub after_answer : S → S
  pub farewell : Message
  pub is_done : S → Bool

-- a message that was heard, and whether memory was refused for it
pub record Turn : Type 0 where
  pub message : Message
  pub refused : Bool

-- a message that a frame at a place spells in a version
pub record IsMessageAt (place : Place) (version : Version) (m : Message) : Type 0 where
  pub has_spelling : IsTrue (fits version m)
  pub to_helper : IsTrue (allows place (kind_of m))
  pub in_range : InRange m

-- bytes that are no frame at a place: their fault shows, and no byte less shows it
pub record IsNoFrameAt (place : Place) (version : Version) (rest : List TalkEvent) : Type 0 where
  pub got : List ℕ
  pub fault : WireFault
  pub shown : IsOfBytes fault
  pub read : read_frame version place got ≡ Err fault
  pub shortest : (front more : List ℕ) → got ≡ front ++ more → more ≢ []
      → read_frame version place front ≡ Err faults.Closed
  pub said : rest ≡ ins got

-- a frame that is not whole, and then these events
pub record IsFramePartAt (place : Place) (version : Version)
    (end rest : List TalkEvent) : Type 0 where
  pub got : List ℕ
  pub read : read_frame version place got ≡ Err faults.Closed
  pub said : rest ≡ ins got ++ end

module _ {S : Type 0} (r : TurnRules S) where
  -- ---- turns

  -- the state once the message was heard
  abbrev pub heard_by : S → Turn → S
  heard_by s t = r.step s t.refused t.message

  -- the state once the reply was given too
  abbrev pub after_turn_by : S → Turn → S
  after_turn_by s t = r.after_answer (heard_by s t)

  -- the message is received, and the reply that is owed is sent
  abbrev pub turn_talk_by : S → Turn → List TalkEvent
  turn_talk_by s t = ins (spelling (r.version s) t.message) ++ outs (r.owed (heard_by s t))

  -- the state after several turns
  abbrev pub state_after_by : S → List Turn → S
  state_after_by s [] = s
  state_after_by s (t ∷ ts) = state_after_by (after_turn_by s t) ts

  -- what happens in them
  abbrev pub turns_talk_by : S → List Turn → List TalkEvent
  turns_talk_by s [] = []
  turns_talk_by s (t ∷ ts) = turn_talk_by s t ++ turns_talk_by (after_turn_by s t) ts

  -- a message that has a spelling where the next one is awaited
  abbrev pub IsMessageBy : S → Message → Type 0
  IsMessageBy s m = IsMessageAt (r.place s) (r.version s) m

  -- a turn whose message may come
  pub record IsTurnBy (s : S) (t : Turn) : Type 0 where
    pub message : IsMessageBy s t.message
    pub allowed : IsTrue (r.is_allowed s t.message)

  abbrev pub AreTurnsBy : S → List Turn → Type 0
  AreTurnsBy s [] = Unit {0}
  AreTurnsBy s (t ∷ ts) = IsTurnBy s t × AreTurnsBy (after_turn_by s t) ts

  -- ---- how it stops; `rest` is what happens behind the turns

  -- a message that may not come, and the refusal
  pub record IsRefusedBy (s : S) (rest : List TalkEvent) : Type 0 where
    pub message : Message
    pub is : IsMessageBy s message
    pub out : r.is_allowed s message ≡ false
    pub said : rest ≡ ins (spelling (r.version s) message)
        ++ outs (spelling (r.version s) (messages.Refuse out_of_turn))

  -- a reply that is cut short
  pub record IsReplyCutBy (s : S) (rest : List TalkEvent) : Type 0 where
    pub turn : Turn
    pub is : IsTurnBy s turn
    pub sent : ℕ
    pub short : sent < length (r.owed (heard_by s turn))
    pub said : rest ≡ ins (spelling (r.version s) turn.message)
        ++ outs (take sent (r.owed (heard_by s turn)))

  -- the refusal of a message that may not come is cut short
  pub record IsRefusalCutBy (s : S) (rest : List TalkEvent) : Type 0 where
    pub message : Message
    pub is : IsMessageBy s message
    pub out : r.is_allowed s message ≡ false
    pub sent : ℕ
    pub short : sent < length (spelling (r.version s) (messages.Refuse out_of_turn))
    pub said : rest ≡ ins (spelling (r.version s) message)
        ++ outs (take sent (spelling (r.version s) (messages.Refuse out_of_turn)))

  -- what was under way is cut short
  abbrev pub IsCutShortBy : S → List TalkEvent → Type 0
  IsCutShortBy s rest =
      IsFramePartAt (r.place s) (r.version s) [] rest ⊎ IsReplyCutBy s rest ⊎ IsRefusalCutBy s rest

  -- `at` is how many bytes were received in the turns
  abbrev pub EndsAs : S → ℕ → List TalkEvent → HelpStatus → Type 0
  EndsAs s at rest Served = rest ≡ ins (spelling (r.version s) r.farewell)
  EndsAs s at rest (BadFrame offset) =
      (offset ≡ at) × (IsNoFrameAt (r.place s) (r.version s) rest ⊎ IsRefusedBy s rest)
  EndsAs s at rest PeerClosed = IsFramePartAt (r.place s) (r.version s) (Ended ∷ []) rest
  EndsAs s at rest PeerFault = IsCutShortBy s rest
  EndsAs s at rest OutOfMemory = IsCutShortBy s rest

  -- The turns of a talk from a state on, none of them a farewell, and how it ends by a status;
  -- `before` is how many bytes were received until then.
  pub record ServesOn (start : S) (before : ℕ) (old new : Option (List TalkEvent))
      (status : HelpStatus) : Type 0 where
    pub turns : List Turn
    pub are : AreTurnsBy start turns
    pub going : r.is_done (state_after_by start turns) ≡ false
    pub rest : List TalkEvent
    pub talk : GoesOn old new (turns_talk_by start turns ++ rest)
    pub ends : EndsAs (state_after_by start turns)
        (before + length (heard (turns_talk_by start turns))) rest status

  -- the same of a whole talk
  abbrev pub ServesBy : S → Option (List TalkEvent) → Option (List TalkEvent) → HelpStatus → Type 0
  ServesBy start = ServesOn start 0
