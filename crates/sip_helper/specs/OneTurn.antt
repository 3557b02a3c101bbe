-- What one turn does: a message came, and the reply that is owed goes out. On a link it is taken
-- whole, and its reply sent, or it stops the talk.
use Rattle.std.specs.Prelude.{◌≡◌, ◌⊎◌, ℕ, ◌<◌, Bool, false, IsTrue, List, [], length, take, Option}
use Rattle.std.specs.Prelude.{Result, Ok, Err}
use Rattle.sip_ports.specs.declared.port.TalkEvent.{TalkEvent}
use Rattle.sip_ports.specs.Ports.{GoesOn, outs}
use Rattle.sip_wire.specs.declared.message.Message.{Message}
use Rattle.sip_wire.specs.declared.message.Message.TheVariants as messages
use Rattle.sip_wire.specs.Spelling.{spelling}
use Rattle.sip_helper.specs.declared.status.HelpStatus.{HelpStatus}
use Rattle.sip_helper.specs.declared.status.HelpStatus.TheVariants.{Served, BadFrame, PeerClosed}
use Rattle.sip_helper.specs.declared.status.HelpStatus.TheVariants.{PeerFault, OutOfMemory}
use Rattle.sip_helper.specs.KindRows.{out_of_turn}
use Rattle.sip_helper.specs.Rules.{EndsAs, IsTurnBy, TurnRules, Turn, after_turn_by, turn_talk_by}

module _ {S : Type 0} (r : TurnRules S) where
  -- ---- behind a message that came in a state; `old` and `new` are what was sent before and until
  -- then, and `next` is the state then

  -- a message out of turn is answered by this
  abbrev pub refusal_by : S → List ℕ
  refusal_by s = spelling (r.version s) (messages.Refuse out_of_turn)

  module _ (old new : Option (List TalkEvent)) (s : S) (m : Message) where
    -- it may come, the reply that is owed was sent, and the talk is not over; memory was refused
    -- for it, or was not
    pub record Replied (next : S) : Type 0 where
      pub allowed : IsTrue (r.is_allowed s m)
      pub refused : Bool
      pub state : next ≡ r.after_answer (r.step s refused m)
      pub going : r.is_done next ≡ false
      pub sent : GoesOn old new (outs (r.owed (r.step s refused m)))

    -- it is a farewell, which may come
    pub record SaysFarewell : Type 0 where
      pub allowed : IsTrue (r.is_allowed s m)
      pub is : m ≡ r.farewell
      pub silent : GoesOn old new []

    -- it may not come, the refusal was sent, and nothing changed
    pub record Refused (next : S) : Type 0 where
      pub out : r.is_allowed s m ≡ false
      pub same : next ≡ s
      pub sent : GoesOn old new (outs (refusal_by s))

    -- a front of the reply was sent
    pub record CutsReply : Type 0 where
      pub allowed : IsTrue (r.is_allowed s m)
      pub refused : Bool
      pub sent : ℕ
      pub short : sent < length (r.owed (r.step s refused m))
      pub talk : GoesOn old new (outs (take sent (r.owed (r.step s refused m))))

    -- a front of the refusal was sent
    pub record CutsRefusal : Type 0 where
      pub out : r.is_allowed s m ≡ false
      pub sent : ℕ
      pub short : sent < length (refusal_by s)
      pub talk : GoesOn old new (outs (take sent (refusal_by s)))

    -- `at` is how many bytes were received before the message
    abbrev pub AnswersTurn : S → ℕ → Result Unit HelpStatus → Type 0
    AnswersTurn next at (Ok _) = Replied next
    AnswersTurn next at (Err Served) = SaysFarewell
    AnswersTurn next at (Err (BadFrame offset)) = (offset ≡ at) × Refused next
    AnswersTurn next at (Err PeerClosed) = ⊥
    AnswersTurn next at (Err PeerFault) = CutsReply ⊎ CutsRefusal
    AnswersTurn next at (Err OutOfMemory) = CutsReply ⊎ CutsRefusal

  -- ---- on a link

  -- the turn was taken whole, and the talk is not over
  pub record Taken (old new : Option (List TalkEvent)) (s next : S) (got : List ℕ) : Type 0 where
    pub turn : Turn
    pub is : IsTurnBy r s turn
    pub state : next ≡ after_turn_by r s turn
    pub going : r.is_done next ≡ false
    pub talk : GoesOn old new (turn_talk_by r s turn)
    pub whole : got ≡ spelling (r.version s) turn.message

  -- nothing more is taken
  pub record StopsTurn (old new : Option (List TalkEvent)) (s : S) (at : ℕ)
      (status : HelpStatus) : Type 0 where
    pub rest : List TalkEvent
    pub talk : GoesOn old new rest
    pub ends : EndsAs r s at rest status

  -- by a state, the state behind the turn, how many bytes were received before it, and the bytes
  -- that its frame has
  abbrev pub TakesTurn : Option (List TalkEvent) → Option (List TalkEvent) → S → S → ℕ → List ℕ
      → Result Unit HelpStatus → Type 0
  TakesTurn old new s next at got (Ok _) = Taken old new s next got
  TakesTurn old new s next at got (Err status) = StopsTurn old new s at status
