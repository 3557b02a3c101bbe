-- Where in its talk a query is: what came of the talk so far, and what comes next. The order is
-- that of the talk: what is asked is sent, a reply is heard frame by frame, a challenge is sent.
use Rattle.std.specs.Prelude.{◌≡◌, ℕ, ◌+◌, ◌-◌, ◌<◌, ◌≤◌, Bool, true, false, List, [], ◌∷◌, ◌++◌}
use Rattle.std.specs.Prelude.{length, slice_index, Option, None, Some, Result, Ok, Err}
use Rattle.sip_ports.specs.declared.port.TalkEvent.{TalkEvent}
use Rattle.sip_ports.specs.Ports.{GoesOn, ins, outs}
use Rattle.sip_field.specs.Moduli.{m61_modulus}
use Rattle.sip_vector.specs.declared.update.Entry.{Entry}
use Rattle.sip_wire.specs.declared.message.Message.{Message}
use Rattle.sip_wire.specs.declared.message.Message.TheVariants as messages
use Rattle.sip_wire.specs.declared.message.Reason.{Reason}
use Rattle.sip_wire.specs.declared.message.Reason.TheVariants as reasons
use Rattle.sip_replies.specs.declared.check.Said.{Said}
use Rattle.sip_replies.specs.declared.asking.AskStop.{AskStop}
use Rattle.sip_replies.specs.declared.asking.AskStop.TheVariants as stops
use Rattle.sip_replies.specs.declared.turn.Stage.{Stage}
use Rattle.sip_replies.specs.declared.turn.Stage.TheVariants as stages
use Rattle.sip_replies.specs.declared.turn.Turn.{Turn}
use Rattle.sip_replies.specs.Checks.{answer_of}
use Rattle.sip_replies.specs.Protocols.{Rules, Protocol, Phase}
use Rattle.sip_replies.specs.Replies.{joined, read_reply, run}
use Rattle.sip_replies.specs.Talks.{asked}
use Rattle.sip_replies.specs.Asking.{AreFrames, IsAnswered, IsRejected}

-- ---- what a turn's value says by itself

-- something is to be sent
abbrev pub is_due : Stage → Bool
is_due stages.Asks = true
is_due (stages.Reveals challenge) = true
is_due _ = false

-- a reply is to come, or the rest of it
abbrev pub is_hearing : Stage → Bool
is_hearing stages.Hears = true
is_hearing _ = false

-- there is no verdict yet
abbrev pub is_open : Stage → Bool
is_open (stages.Said said) = false
is_open (stages.Rejected round reason) = false
is_open _ = true

-- the message that is to be sent
abbrev pub due_message : Message → Stage → Message
due_message request (stages.Reveals challenge) = messages.Reveal challenge
due_message request _ = request

-- the verdict, once there is one
abbrev pub verdict_of : Stage → Option (Result Said AskStop)
verdict_of (stages.Said said) = Some (Ok said)
verdict_of (stages.Rejected round reason) = Some (Err (stops.Rejected round reason))
verdict_of _ = None

-- the verdict of the tests behind the last reply
abbrev pub stage_of : ℕ → Result Said Reason → Stage
stage_of round (Ok said) = stages.Said said
stage_of round (Err reason) = stages.Rejected round reason

-- how many replies may still come, counted so that a verdict is less
abbrev pub left_at : ℕ → ℕ → Stage → ℕ
left_at depth round (stages.Said said) = 0
left_at depth round (stages.Rejected j reason) = 0
left_at depth round _ = (depth - round) + 1

abbrev pub left : Turn → ℕ
left turn = left_at turn.depth turn.round turn.stage

-- a challenge that is to be sent is an element
abbrev pub IsBelow : Stage → Type 0
IsBelow (stages.Reveals challenge) = challenge < m61_modulus
IsBelow _ = Unit {0}

-- the check is where the turn is: before a reply, with each challenge revealed behind those before
pub record IsAt (turn : Turn) (phase : Phase) : Type 0 where
  pub deep : length phase.block ≡ turn.depth
  pub few : turn.round < turn.depth
  pub taken : phase.taken ≡ turn.round
  pub revealed : phase.revealed ≡ turn.round
  pub below : IsBelow turn.stage

-- ---- one reply, of which whole frames came

-- these bytes of a reply came and were kept; the rest is read by `rest`, and no byte less ends the
-- reply or shows a fault
pub record Begun {X : Type 0} (read : List ℕ → Result X Reason)
    (old mid before during : Option (List TalkEvent)) (rest : List ℕ → Result X Reason)
    : Type 0 where
  pub bytes : List ℕ
  pub heard : GoesOn old mid (ins bytes)
  pub kept : GoesOn before during (outs bytes)
  pub reads : (more : List ℕ) → read (bytes ++ more) ≡ rest more
  pub shortest : (front : List ℕ) (byte : ℕ) → bytes ≡ front ++ byte ∷ []
      → read front ≡ Err reasons.Closed

-- whole frames of a reply came that began in the state `from`, and they lead to this state
pub record Entered {S : Type 0} (R : Rules S) (from : S)
    (old mid before during : Option (List TalkEvent)) (Stands : S → Type 0) : Type 0 where
  pub state : S
  pub begun : Begun (read_reply R from) old mid before during (read_reply R state)
  pub frames : AreFrames R.version begun.bytes
  pub stands : Stands state

-- ---- all replies so far

-- no byte less of the last reply ends it or shows a fault
abbrev pub IsShort : {S : Type 0} → Protocol S → List ℕ → List (List ℕ) → Type 0
IsShort P block replies = (earlier : List (List ℕ)) (front : List ℕ) (byte : ℕ)
    → replies ≡ earlier ++ (front ++ byte ∷ []) ∷ []
    → run P.rules block (earlier ++ front ∷ [])
    ≡ Err (record { round = length earlier; reason = reasons.Closed })

-- the next reply may come, and is read from this state
pub record Ready {S : Type 0} (P : Protocol S) (request : Message) (block : List ℕ)
    (old mid before during : Option (List TalkEvent)) (replies : List (List ℕ)) (state : S)
    : Type 0 where
  pub said : List TalkEvent
  pub talk : GoesOn old mid said
  pub kept : GoesOn before during (outs (joined replies))
  pub frames : AreFrames P.rules.version (joined replies)
  pub order : (bytes : List ℕ) → asked P.rules.version request block (replies ++ bytes ∷ [])
      ≡ said ++ ins bytes
  pub passed : run P.rules block replies ≡ Ok state
  pub few : length replies < length block

-- so many replies came and passed, and they lead to a state in which a challenge is to be learnt
pub record Going {S : Type 0} (P : Protocol S) (request : Message) (block : List ℕ)
    (old mid before during : Option (List TalkEvent)) (count : ℕ) (Stands : S → Type 0)
    : Type 0 where
  pub replies : List (List ℕ)
  pub state : S
  pub counted : length replies ≡ count
  pub some : 1 ≤ count
  pub within : count ≤ length block
  pub passed : run P.rules block replies
      ≡ Ok (P.rules.learn state (slice_index block (count - 1)))
  pub shortest : IsShort P block replies
  pub talk : GoesOn old mid (asked P.rules.version request block replies)
  pub kept : GoesOn before during (outs (joined replies))
  pub frames : AreFrames P.rules.version (joined replies)
  pub stands : Stands state

-- ---- the turn, by its stage

module _ {S : Type 0} (P : Protocol S) (request : Message) (block : List ℕ)
    (old new before now : Option (List TalkEvent)) (Stands : S → Type 0) where
  -- nothing was said, and what is asked is to be sent
  pub record Asks (round : ℕ) : Type 0 where
    pub due : P.unasked ≡ None
    pub first : round ≡ 0
    pub silent : GoesOn old new []
    pub unkept : GoesOn before now []
    pub some : 0 < length block
    pub stands : Stands P.rules.start

  -- so many replies came and passed, and the challenge behind them is to be sent, which the check
  -- has learnt
  pub record Reveals (round challenge : ℕ) : Type 0 where
    pub due : P.unasked ≡ None
    pub is : challenge ≡ slice_index block (round - 1)
    pub few : round < length block
    pub going : Going P request block old new before now round
        (λ s. Stands (P.rules.learn s challenge))

  -- behind so many replies the next one is due, of which whole frames came
  pub record Hears (round : ℕ) : Type 0 where
    pub due : P.unasked ≡ None
    pub mid : Option (List TalkEvent)
    pub during : Option (List TalkEvent)
    pub replies : List (List ℕ)
    pub counted : length replies ≡ round
    pub from : S
    pub ready : Ready P request block old mid before during replies from
    pub entered : Entered P.rules from mid new during now Stands

  -- what the talk is at this stage
  abbrev pub FollowsAt : List Entry → ℕ → Stage → Type 0
  FollowsAt places round stages.Asks = Asks round
  FollowsAt places round stages.Hears = Hears round
  FollowsAt places round (stages.Reveals challenge) = Reveals round challenge
  FollowsAt places round (stages.Said said) =
      IsAnswered P request block old new before now (answer_of places said)
  FollowsAt places round (stages.Rejected j reason) =
      IsRejected P request block old new before now j reason

  -- The turn is where the talk is. `Stands` says of a state that the check stands for it.
  pub record Follows (places : List Entry) (turn : Turn) : Type 0 where
    pub version : P.rules.version ≡ turn.version
    pub at : FollowsAt places turn.round turn.stage
