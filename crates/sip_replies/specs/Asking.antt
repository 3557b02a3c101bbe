-- What the calls did that ask: what was said on the link, and what was written to the keeper of
-- what is received.
use Rattle.std.specs.Prelude.{◌≡◌, ◌≢◌, All, ℕ, List, [], ◌∷◌, ◌++◌, flat_map, Option, None, Result}
use Rattle.std.specs.Prelude.{Ok, Err, IsTrue}
use Rattle.sip_ports.specs.declared.port.PortStop.{PortStop}
use Rattle.sip_ports.specs.declared.port.PortStop.TheVariants as ports
use Rattle.sip_ports.specs.declared.port.TalkEvent.{TalkEvent}
use Rattle.sip_ports.specs.Ports.{GoesOn, heard, ins, outs}
use Rattle.sip_vector.specs.declared.update.Entry.{Entry}
use Rattle.sip_vector.specs.Answers.{Answer}
use Rattle.sip_wire.specs.declared.message.Reason.{Reason}
use Rattle.sip_wire.specs.declared.message.Reason.TheVariants as reasons
use Rattle.sip_wire.specs.declared.message.WireFault.{WireFault}
use Rattle.sip_wire.specs.declared.message.WireFault.TheVariants as faults
use Rattle.sip_wire.specs.declared.kind.Place.{Place}
use Rattle.sip_wire.specs.declared.message.Message.{Message}
use Rattle.sip_wire.specs.declared.version.Version.{Version}
use Rattle.sip_wire.specs.Values.{InRange}
use Rattle.sip_wire.specs.Reading.{read_frame}
use Rattle.sip_wire.specs.Spelling.{fits, spelling}
use Rattle.sip_replies.specs.declared.check.Said.{Said}
use Rattle.sip_replies.specs.declared.asking.AskStop.{AskStop}
use Rattle.sip_replies.specs.declared.asking.AskStop.TheVariants as stops
use Rattle.sip_replies.specs.declared.taking.ReplyStop.{ReplyStop}
use Rattle.sip_replies.specs.declared.taking.ReplyStop.TheVariants as reply_stops
use Rattle.sip_replies.specs.Checks.{answer_of}
use Rattle.sip_replies.specs.Protocols.{Protocol}
use Rattle.sip_replies.specs.Replies.{reason_of, joined, MayEnd, IsUnfinished, IsMissing}
use Rattle.sip_replies.specs.Replies.{IsUnjudged, IsFaulty, IsAccepted}
use Rattle.sip_replies.specs.Talks.{IsPrefix, asked, asked_unless, ending}

-- ---- why a call stopped

-- why a query has no answer, where the link stopped
abbrev pub stop_of_port : PortStop → AskStop
stop_of_port ports.Failed = stops.PeerFault
stop_of_port ports.OutOfMemory = stops.OutOfMemory

-- why a reply was not taken, where a frame has this fault
abbrev pub stop_of_fault : WireFault → ReplyStop
stop_of_fault faults.PeerFault = reply_stops.PeerFault
stop_of_fault faults.OutOfMemory = reply_stops.OutOfMemory
stop_of_fault fault = reply_stops.Faulty (reason_of fault)

-- why a query has no answer, where the reply of this round was not taken
abbrev pub stop_in_round : ℕ → ReplyStop → AskStop
stop_in_round round (reply_stops.Faulty reason) = stops.Rejected round reason
stop_in_round round reply_stops.PeerFault = stops.PeerFault
stop_in_round round reply_stops.KeepFault = stops.KeepFault
stop_in_round round reply_stops.OutOfMemory = stops.OutOfMemory
stop_in_round round reply_stops.KeepOutOfMemory = stops.KeepOutOfMemory

-- why a reply was not taken, where the keeper stopped
abbrev pub stop_of_keeper : PortStop → ReplyStop
stop_of_keeper ports.Failed = reply_stops.KeepFault
stop_of_keeper ports.OutOfMemory = reply_stops.KeepOutOfMemory

-- what a call that fills a value of its caller's took: the value as it left it, or why it stopped
abbrev pub filled : {X : Type 0} → X → Result Unit ReplyStop → Result X ReplyStop
filled x (Ok _) = Ok x
filled x (Err stop) = Err stop

-- a front of these bytes was kept
abbrev pub KeepsPart : Option (List TalkEvent) → Option (List TalkEvent) → List ℕ → Type 0
KeepsPart before now bytes = (part : List ℕ) × IsPrefix part bytes × GoesOn before now (outs part)

-- whole frames, one behind another: the spellings of messages that have one
pub record AreFrames (version : Version) (bytes : List ℕ) : Type 0 where
  pub messages : List Message
  pub have_spellings : All (λ m. IsTrue (fits version m)) messages
  pub spelled : bytes ≡ flat_map (spelling version) messages

-- These bytes came: whole frames, which were kept, and behind them less than a frame, of which
-- nothing was kept.
pub record KeepsFrames (version : Version) (before now : Option (List TalkEvent))
    (bytes : List ℕ) : Type 0 where
  pub whole : List ℕ
  pub part : List ℕ
  pub split : bytes ≡ whole ++ part
  pub frames : AreFrames version whole
  pub cut : (place : Place) × (read_frame version place part ≡ Err faults.Closed)
  pub kept : GoesOn before now (outs whole)

-- ---- one reply, or one frame of it, of which `read` is what its bytes say

module _ {X : Type 0} (version : Version) (read : List ℕ → Result X Reason)
    (old new before now : Option (List TalkEvent)) where
  -- a whole reply came, no byte too many was taken, all were kept, and it says this
  pub record Came (said : X) : Type 0 where
    pub bytes : List ℕ
    pub heard : GoesOn old new (ins bytes)
    pub kept : GoesOn before now (outs bytes)
    pub frames : AreFrames version bytes
    pub says : read bytes ≡ Ok said
    pub shortest : (front : List ℕ) (byte : ℕ) → bytes ≡ front ++ byte ∷ []
        → read front ≡ Err reasons.Closed

  -- the reply has this fault, no byte less shows it, and all that came was kept
  pub record HasFault (reason : Reason) : Type 0 where
    pub bytes : List ℕ
    pub heard : GoesOn old new (ins bytes ++ ending reason)
    pub kept : GoesOn before now (outs bytes)
    pub says : read bytes ≡ Err reason
    pub shortest : (front : List ℕ) (byte : ℕ) → bytes ≡ front ++ byte ∷ []
        → reason ≢ reasons.Closed
        → read front ≡ Err reasons.Closed

  -- the link stopped, and what came has no fault but that it is not whole; its whole frames were
  -- kept
  pub record IsPart : Type 0 where
    pub bytes : List ℕ
    pub heard : GoesOn old new (ins bytes)
    pub kept : KeepsFrames version before now bytes
    pub says : read bytes ≡ Err reasons.Closed

  -- what came could not be kept, and no byte less ends the reply or shows a fault
  pub record IsUnkept : Type 0 where
    pub bytes : List ℕ
    pub ended : List TalkEvent
    pub heard : GoesOn old new (ins bytes ++ ended)
    pub may_end : MayEnd (read bytes ≡ Err reasons.Closed) ended
    pub kept : KeepsPart before now bytes
    pub shortest : (front : List ℕ) (byte : ℕ) → bytes ≡ front ++ byte ∷ []
        → read front ≡ Err reasons.Closed

  -- what taking a reply did, where `Stands` holds of what the call gives and of what the reply says
  abbrev pub Takes : {T : Type 0} → (T → X → Type 0) → Result T ReplyStop → Type 0
  Takes Stands (Ok x) = (said : X) × Came said × Stands x said
  Takes Stands (Err (reply_stops.Faulty reason)) = HasFault reason
  Takes Stands (Err reply_stops.PeerFault) = IsPart
  Takes Stands (Err reply_stops.KeepFault) = IsUnkept
  Takes Stands (Err reply_stops.OutOfMemory) = IsPart
  Takes Stands (Err reply_stops.KeepOutOfMemory) = IsUnkept

-- a message was received: it is all that was read, has a spelling, and its numbers fit their types
pub record Shows (version : Version) (m : Message) (said : Message × List ℕ) : Type 0 where
  pub is : said ≡ (m, [])
  pub has_spelling : IsTrue (fits version m)
  pub in_range : InRange m

-- ---- all replies to what is asked

module _ {S : Type 0} (P : Protocol S) (request : Message) (block : List ℕ)
    (old new before now : Option (List TalkEvent)) where
  -- all replies came, in whole frames, and are accepted; where the answer was known nothing was
  -- said
  pub record IsAnswered (answer : Answer) : Type 0 where
    pub replies : List (List ℕ)
    pub talk : GoesOn old new (asked_unless P.unasked P.rules.version request block replies)
    pub kept : GoesOn before now (outs (joined replies))
    pub frames : AreFrames P.rules.version (joined replies)
    pub accepted : IsAccepted P block replies answer

  -- the replies that came have this first fault
  pub record IsRejected (round : ℕ) (reason : Reason) : Type 0 where
    pub replies : List (List ℕ)
    pub talk : GoesOn old new (asked P.rules.version request block replies ++ ending reason)
    pub kept : GoesOn before now (outs (joined replies))
    pub faulty : IsFaulty P block replies (record { round = round; reason = reason })

  -- the talk stopped, a reply is missing or not whole, and none has a fault so far; the frames that
  -- came whole were kept
  pub record IsInterrupted : Type 0 where
    pub due : P.unasked ≡ None
    pub replies : List (List ℕ)
    pub said : List TalkEvent
    pub talk : GoesOn old new said
    pub order : IsPrefix said (asked P.rules.version request block replies)
    pub kept : KeepsFrames P.rules.version before now (heard said)
    pub unfinished : IsUnfinished P.rules block replies
    pub missing : IsMissing P.rules block replies

  -- what came of the last reply could not be kept, and so was not judged
  pub record IsUnrecorded : Type 0 where
    pub replies : List (List ℕ)
    pub ended : List TalkEvent
    pub talk : GoesOn old new (asked P.rules.version request block replies ++ ended)
    pub kept : KeepsPart before now (joined replies)
    pub unjudged : IsUnjudged P block replies ended

  -- what was answered, where these are the places of the pairs
  abbrev pub Answers : List Entry → Result Said AskStop → Type 0
  Answers places (Ok said) = IsAnswered (answer_of places said)
  Answers places (Err (stops.Rejected round reason)) = IsRejected round reason
  Answers places (Err stops.PeerFault) = IsInterrupted
  Answers places (Err stops.KeepFault) = IsUnrecorded
  Answers places (Err stops.OutOfMemory) = IsInterrupted
  Answers places (Err stops.KeepOutOfMemory) = IsUnrecorded
