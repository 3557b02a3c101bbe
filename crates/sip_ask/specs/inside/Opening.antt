-- What hearing what the other end holds did, and opening a talk.
use Rattle.std.specs.Prelude.{◌≡◌, ◌≢◌, ◌⊎◌, ℕ, List, ◌∷◌, [], ◌++◌, Result, Ok, Err, IsTrue}
use Rattle.std.specs.declared.option.Option.{Option}
use Rattle.sip_ports.specs.Ports.{GoesOn, ins}
use Rattle.sip_ports.specs.declared.port.TalkEvent.{TalkEvent}
use Rattle.sip_ports.specs.declared.port.TalkEvent.TheVariants.{Ended}
use Rattle.sip_vector.specs.declared.tally.Tally.{Tally}
use Rattle.sip_wire.specs.Faults.{IsOfBytes}
use Rattle.sip_wire.specs.Reading.{read_frame}
use Rattle.sip_wire.specs.Spelling.{fits}
use Rattle.sip_wire.specs.declared.kind.Place.TheVariants as places
use Rattle.sip_wire.specs.declared.message.Held.{Held}
use Rattle.sip_wire.specs.declared.message.Message.TheVariants as messages
use Rattle.sip_wire.specs.declared.message.WireFault.{WireFault}
use Rattle.sip_wire.specs.declared.message.WireFault.TheVariants as faults
use Rattle.sip_wire.specs.declared.version.Version.{Version}
use Rattle.sip_replies.specs.Talks.{IsPrefix}
use Rattle.sip_ask.specs.Turns.{held_by, held_heard, recall_sent}
use Rattle.sip_ask.specs.declared.status.AskStatus.{AskStatus}
use Rattle.sip_ask.specs.declared.status.AskStatus.TheVariants as statuses

-- the status where the frame that is due has this fault
abbrev pub of_fault : WireFault → AskStatus
of_fault faults.Closed = statuses.PeerClosed
of_fault faults.PeerFault = statuses.PeerFault
of_fault faults.OutOfMemory = statuses.OutOfMemory
of_fault _ = statuses.BadFrame

-- a front of the frame that is due came
pub record HearsFront (version : Version) (old new : Option (List TalkEvent))
    (ended : List TalkEvent) : Type 0 where
  pub bytes : List ℕ
  pub talk : GoesOn old new (ins bytes ++ ended)
  pub front : read_frame version places.Held bytes ≡ Err faults.Closed

-- or bytes that begin no such frame
pub record HearsOther (version : Version) (old new : Option (List TalkEvent)) : Type 0 where
  pub bytes : List ℕ
  pub talk : GoesOn old new (ins bytes)
  pub fault : WireFault
  pub of_bytes : IsOfBytes fault
  pub other : read_frame version places.Held bytes ≡ Err fault

abbrev pub HearsHeld : Version → Option (List TalkEvent) → Option (List TalkEvent)
    → Result Held AskStatus → Type 0
HearsHeld version old new (Ok held) =
    GoesOn old new (held_heard version held) × IsTrue (fits version (messages.Held held))
HearsHeld version old new (Err statuses.PeerClosed) = HearsFront version old new (Ended ∷ [])
HearsHeld version old new (Err statuses.BadFrame) = HearsOther version old new
HearsHeld version old new (Err statuses.PeerFault) = HearsFront version old new []
HearsHeld version old new (Err statuses.OutOfMemory) = HearsFront version old new []
HearsHeld version old new (Err _) = ⊥

module _ (version : Version) (depth : ℕ) (t : Tally) (old new : Option (List TalkEvent)) where
  -- the opening was sent, and then this was heard
  pub record HearsBehind (result : Result Held AskStatus) : Type 0 where
    pub mid : Option (List TalkEvent)
    pub sent : GoesOn old mid (recall_sent version depth t.count)
    pub hears : HearsHeld version mid new result

  -- a front of it was sent
  pub record IsCutShort : Type 0 where
    pub events : List TalkEvent
    pub front : IsPrefix events (recall_sent version depth t.count)
    pub talk : GoesOn old new events

  abbrev pub OpensWith : Result (Unit {0}) AskStatus → Type 0
  OpensWith (Ok _) = HearsBehind (Ok (held_by t))
  OpensWith (Err (statuses.OutOfStep held kept)) =
      HearsBehind (Ok held) × (kept ≡ held_by t) × (held ≢ kept)
  OpensWith (Err statuses.PeerFault) = IsCutShort ⊎ HearsBehind (Err statuses.PeerFault)
  OpensWith (Err statuses.OutOfMemory) = IsCutShort ⊎ HearsBehind (Err statuses.OutOfMemory)
  OpensWith (Err status) = HearsBehind (Err status)
