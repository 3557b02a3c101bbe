-- How far a run got with its queries once the stream was sent.
use Rattle.std.specs.Prelude.{◌≡◌, ◌⊎◌, ℕ, suc, List, ◌∷◌, length, map, take, drop, flat_map}
use Rattle.std.specs.Prelude.{Option, Result, Ok, Err}
use Rattle.sip_ports.specs.declared.port.TalkEvent.{TalkEvent}
use Rattle.sip_ports.specs.Ports.{GoesOn, outs}
use Rattle.sip_replies.specs.Talks.{IsPrefix}
use Rattle.sip_wire.specs.declared.message.Reason.{Reason}
use Rattle.sip_verifier.specs.declared.status.Port.TheVariants as ports
use Rattle.sip_verifier.specs.declared.status.Status.{Status}
use Rattle.sip_verifier.specs.declared.status.Status.TheVariants as statuses
use Rattle.sip_verifier.specs.Reports.{rejection}
use Rattle.sip_verifier.specs.runs.Asking.{IsAnswered, IsRejected, IsInterrupted, IsUnrecorded}
use Rattle.sip_verifier.specs.runs.Manners.{Accepted, Manner, Question}

-- ---- one query, which has this number

module _ {Q A : Type 0} (m : Manner Q A) (query : Q) (block : List ℕ) (number : ℕ)
    (old new blank full : Option (List TalkEvent)) where
  -- its replies were accepted, and its line was written
  pub record Passes : Type 0 where
    pub answer : A
    pub answered : IsAnswered m query block old new answer
    pub wrote : GoesOn blank full (outs (m.line query answer))

  -- its replies were rejected, and the line of the rejection was written
  pub record Fails (round : ℕ) (reason : Reason) : Type 0 where
    pub rejected : IsRejected m query block old new round reason
    pub wrote : GoesOn blank full (outs (rejection number round reason))

  -- its replies were accepted, and a front of its line was written
  pub record PassesInPart : Type 0 where
    pub answer : A
    pub answered : IsAnswered m query block old new answer
    pub part : List ℕ
    pub front : IsPrefix part (m.line query answer)
    pub wrote : GoesOn blank full (outs part)

  -- its replies were rejected, and a front of the line of the rejection was written
  pub record FailsInPart : Type 0 where
    pub round : ℕ
    pub reason : Reason
    pub rejected : IsRejected m query block old new round reason
    pub part : List ℕ
    pub front : IsPrefix part (rejection number round reason)
    pub wrote : GoesOn blank full (outs part)

  -- it has no verdict, and nothing was written
  pub record HasNone : Type 0 where
    pub interrupted : IsInterrupted m query block old new
    pub same : full ≡ blank

  -- what came of its last reply was not judged, and nothing was written
  pub record StaysUnjudged : Type 0 where
    pub unrecorded : IsUnrecorded m query block old new
    pub same : full ≡ blank

  -- what came of it
  abbrev pub Checks : Result (Unit {0}) Status → Type 0
  Checks (Ok _) = Passes
  Checks (Err (statuses.Rejected k round reason)) = (k ≡ number) × Fails round reason
  Checks (Err (statuses.WriteFault ports.Report)) = PassesInPart ⊎ FailsInPart
  Checks (Err (statuses.WriteFault ports.Keep)) = StaysUnjudged
  Checks (Err statuses.PeerFault) = HasNone
  Checks (Err statuses.OutOfMemory) = PassesInPart ⊎ FailsInPart ⊎ HasNone ⊎ StaysUnjudged
  Checks (Err _) = ⊥

-- ---- all queries

-- these questions are those of the first queries, each with its own block
pub record AreFirst {Q : Type 0} (queries : List Q) (blocks : List (List ℕ))
    (questions : List (Question Q)) : Type 0 where
  pub asked : map (λ q. q.query) questions ≡ take (length questions) queries
  pub at_blocks : map (λ q. q.block) questions ≡ take (length questions) blocks

module _ {Q A : Type 0} (m : Manner Q A) (queries : List Q) (blocks : List (List ℕ))
    (old new blank full : Option (List TalkEvent)) where
  -- the first queries were accepted, and their lines were written
  pub record Passed (done : List (Accepted m)) : Type 0 where
    pub first : AreFirst queries blocks (map (λ a. a.question) done)
    pub talk : GoesOn old new (flat_map m.said_for (map (λ a. a.question) done))
    pub report : GoesOn blank full (outs (flat_map (λ a. m.line a.question.query a.answer) done))

  -- so many queries were accepted, and their lines were written
  pub record PassedBy (count : ℕ) : Type 0 where
    pub done : List (Accepted m)
    pub counted : length done ≡ count
    pub passed : Passed done

-- the first queries were accepted, and the one behind them was the last, with this end
pub record EndsWith {Q A : Type 0} (m : Manner Q A) (queries : List Q) (blocks : List (List ℕ))
    (old new blank full : Option (List TalkEvent)) (status : Status) : Type 0 where
  pub done : List (Accepted m)
  pub mid : Option (List TalkEvent)
  pub half : Option (List TalkEvent)
  pub passed : Passed m queries blocks old mid blank half done
  pub query : Q
  pub block : List ℕ
  pub next_query : List Q
  pub next_block : List (List ℕ)
  pub asks : drop (length done) queries ≡ query ∷ next_query
  pub at : drop (length done) blocks ≡ block ∷ next_block
  pub checks : Checks m query block (suc (length done)) mid new half full (Err status)

-- what came of all queries
abbrev pub ChecksAll : {Q A : Type 0} → Manner Q A → List Q → List (List ℕ)
    → Option (List TalkEvent) → Option (List TalkEvent) → Option (List TalkEvent)
    → Option (List TalkEvent) → Result (Unit {0}) Status → Type 0
ChecksAll m queries blocks old new blank full (Ok _) =
    PassedBy m queries blocks old new blank full (length queries)
ChecksAll m queries blocks old new blank full (Err status) =
    EndsWith m queries blocks old new blank full status
