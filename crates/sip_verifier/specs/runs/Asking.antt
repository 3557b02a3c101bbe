-- What a call that asks one query did.
use Rattle.std.specs.Prelude.{ℕ, List, ◌++◌, Option}
use Rattle.sip_ports.specs.declared.port.TalkEvent.{TalkEvent}
use Rattle.sip_ports.specs.Ports.{GoesOn}
use Rattle.sip_replies.specs.Talks.{IsPrefix, ending}
use Rattle.sip_wire.specs.declared.message.Reason.{Reason}
use Rattle.sip_verifier.specs.runs.Manners.{Manner, Question}

-- the question of a query at its block, with these replies
abbrev pub question_of : {Q : Type 0} → Q → List ℕ → List (List ℕ) → Question Q
question_of query block replies = record { query = query; block = block; replies = replies }

module _ {Q A : Type 0} (m : Manner Q A) (query : Q) (block : List ℕ)
    (old new : Option (List TalkEvent)) where
  -- all replies came and are accepted, and they state this answer
  pub record IsAnswered (answer : A) : Type 0 where
    pub replies : List (List ℕ)
    pub talk : GoesOn old new (m.said_for (question_of query block replies))
    pub accepted : m.Accepts (question_of query block replies) answer

  -- the replies that came have this first fault
  pub record IsRejected (round : ℕ) (reason : Reason) : Type 0 where
    pub replies : List (List ℕ)
    pub talk : GoesOn old new (m.said_for (question_of query block replies) ++ ending reason)
    pub faulty : m.IsFaulty (question_of query block replies)
        (record { round = round; reason = reason })

  -- the talk stopped, a reply is missing or not whole, and none has a fault so far
  pub record IsInterrupted : Type 0 where
    pub replies : List (List ℕ)
    pub said : List TalkEvent
    pub talk : GoesOn old new said
    pub order : IsPrefix said (m.said_for (question_of query block replies))
    pub waits : m.IsWaiting (question_of query block replies)

  -- what came of the last reply could not be kept, and so was not judged
  pub record IsUnrecorded : Type 0 where
    pub replies : List (List ℕ)
    pub ended : List TalkEvent
    pub talk : GoesOn old new (m.said_for (question_of query block replies) ++ ended)
    pub unjudged : m.IsUnjudged (question_of query block replies) ended
