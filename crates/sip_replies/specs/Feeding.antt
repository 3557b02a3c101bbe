-- A turn whose bytes come in any pieces: what the bytes so far are a talk of.
use Rattle.std.specs.Prelude.{◌≡◌, ℕ, ◌<◌, false, List, [], ◌∷◌, ◌++◌, length, None, Some, Err}
use Rattle.sip_ports.specs.declared.port.TalkEvent.{TalkEvent}
use Rattle.sip_ports.specs.Ports.{ins}
use Rattle.sip_vector.specs.declared.update.Entry.{Entry}
use Rattle.sip_wire.specs.declared.message.Message.{Message}
use Rattle.sip_wire.specs.declared.message.Reason.TheVariants as reasons
use Rattle.sip_wire.specs.Spelling.{asked}
use Rattle.sip_replies.specs.declared.turn.Stage.{Stage}
use Rattle.sip_replies.specs.declared.turn.Stage.TheVariants as stages
use Rattle.sip_replies.specs.declared.turn.Turn.{Turn}
use Rattle.sip_replies.specs.Checks.{answer_of}
use Rattle.sip_replies.specs.Protocols.{Protocol}
use Rattle.sip_replies.specs.Replies.{run}
use Rattle.sip_replies.specs.Talks.{asked as asked_talk}
use Rattle.sip_replies.specs.Asking.{IsAnswered, IsRejected, IsInterrupted}
use Rattle.sip_replies.specs.Following.{Follows, is_hearing}

module _ {S : Type 0} (P : Protocol S) (request : Message) (block : List ℕ)
    (events : List TalkEvent) where
  -- All that is due was sent, and the reply that is due is not whole, nor has a fault so far: so no
  -- answer is possible by the bytes so far.
  pub record IsWaiting : Type 0 where
    pub replies : List (List ℕ)
    pub part : List ℕ
    pub few : length replies < length block
    pub talk : events ≡ asked_talk P.rules.version request block (replies ++ part ∷ [])
    pub closed : run P.rules block (replies ++ part ∷ [])
        ≡ Err (record { round = length replies; reason = reasons.Closed })
    pub cut : IsInterrupted P request block (Some []) (Some events) None None

  -- what is said of the talk at each stage: the answers are those of whoever asks over a link
  abbrev pub Means : List Entry → Stage → Type 0
  Means places (stages.Said said) =
      IsAnswered P request block (Some []) (Some events) None None (answer_of places said)
  Means places (stages.Rejected round reason) =
      IsRejected P request block (Some []) (Some events) None None round reason
  Means places stages.Hears = IsWaiting
  Means places stages.Asks = IsInterrupted P request block (Some []) (Some events) None None
  Means places (stages.Reveals challenge) =
      IsInterrupted P request block (Some []) (Some events) None None

  -- The turn is where a talk of these events is, the last bytes being the part of a frame.
  pub record IsFed (Stands : S → Type 0) (places : List Entry) (turn : Turn) (part : List ℕ)
      : Type 0 where
    pub before : List TalkEvent
    pub follows : Follows P request block (Some []) (Some before) None None Stands places turn
    pub last : events ≡ before ++ ins part
    pub short : (s : S) → Stands s → length part < asked turn.version (P.rules.place s) part
    pub quiet : is_hearing turn.stage ≡ false → part ≡ []
