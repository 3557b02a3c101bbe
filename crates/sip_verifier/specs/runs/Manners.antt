-- How questions of one sort are asked and judged.
use Rattle.std.specs.Prelude.{ℕ, List}
use Rattle.sip_ports.specs.declared.port.TalkEvent.{TalkEvent}
use Rattle.sip_vector.specs.declared.update.Update.{Update}
use Rattle.sip_wire.specs.declared.version.Version.{Version}
use Rattle.sip_replies.specs.Replies.{Fault}
use Rattle.sip_verifier.specs.declared.status.Status.{Status}

-- a query, its block of challenges, and the bytes of each reply that was taken
pub record Question (Q : Type 0) : Type 0 where
  pub query : Q
  pub block : List ℕ
  pub replies : List (List ℕ)

-- How queries Q with answers A are asked about a stream, and how the replies are judged.
pub record Manner (Q A : Type 0) : Type 1 where
  -- what is said for a question, up to the last reply that was taken
  pub said_for : Question Q → List TalkEvent
  -- the replies are accepted, and this is the answer that they state
  pub Accepts : Question Q → A → Type 0
  -- the replies have this fault, and no byte too many was taken
  pub IsFaulty : Question Q → Fault → Type 0
  -- no fault so far
  pub IsUnfinished : Question Q → Type 0
  -- the query has to be asked, there is no fault so far, and a reply is missing or not whole yet
  pub IsWaiting : Question Q → Type 0
  -- what came of the last reply was not judged, and this followed it
  pub IsUnjudged : Question Q → List TalkEvent → Type 0
  -- the line of an accepted query
  pub line : Q → A → List ℕ
  -- the bytes that are sent once every query was accepted
  pub farewell : List ℕ
  -- all these queries may be asked
  pub MayAsk : List Q → Type 0
  -- they may not: the run ends with this status before it asks the first
  pub Refuses : List Q → Status → Type 0

-- a manner of asking about any stream, by the version of the talk and the depth
abbrev pub Asking : Type 0 → Type 0 → Type 1
Asking Q A = Version → ℕ → List Update → Manner Q A

-- a question whose replies are accepted
pub record Accepted {Q A : Type 0} (m : Manner Q A) : Type 0 where
  pub question : Question Q
  pub answer : A
  pub accepts : m.Accepts question answer
