-- The protocol of a query's kind. (For the proofs of `ask_by_kind` and its parts alone.)
use Rattle.std.specs.Prelude.{◌≡◌, ℕ, List}
use Rattle.sip_ports.specs.declared.port.TalkEvent.{TalkEvent}
use Rattle.sip_vector.specs.declared.query.Query.{Query}
use Rattle.sip_vector.specs.declared.update.Update.{Update}
use Rattle.sip_vector.specs.Answers.{Answer}
use Rattle.sip_wire.specs.declared.message.Message.TheVariants as messages
use Rattle.sip_wire.specs.declared.version.Version.{Version}
use Rattle.sip_replies.specs.Protocols.{Protocol}
use Rattle.sip_replies.specs.Replies as replied
use Rattle.sip_replies.specs.Replies.{Fault}
use Rattle.sip_replies.specs.Talks.{asked_unless}
use Rattle.sip_verifier.specs.Asking.{question_of}
use Rattle.sip_verifier.specs.Questions.{Accepts, IsDue, IsFaulty, IsUnjudged, IsWaiting, said_for}

-- This is the protocol of the query's kind: what is said and what holds by it is so of the query's
-- questions.
pub record IsProtocol (version : Version) (depth : ℕ) (stream : List Update) (query : Query)
    (block : List ℕ) {S : Type 0} (P : Protocol S) : Type 0 where
  pub said : (replies : List (List ℕ))
      → asked_unless P.unasked P.rules.version (messages.Query query) block replies
      ≡ said_for version depth stream (question_of query block replies)
  pub accepts : (replies : List (List ℕ)) (answer : Answer)
      → replied.IsAccepted P block replies answer
      → Accepts version depth stream (question_of query block replies) answer
  pub faulty : (replies : List (List ℕ)) (fault : Fault) → replied.IsFaulty P block replies fault
      → IsFaulty version depth stream (question_of query block replies) fault
  pub unjudged : (replies : List (List ℕ)) (ended : List TalkEvent)
      → replied.IsUnjudged P block replies ended
      → IsUnjudged version depth stream (question_of query block replies) ended
  pub waits : (replies : List (List ℕ)) → IsDue P block replies
      → IsWaiting version depth stream (question_of query block replies)
