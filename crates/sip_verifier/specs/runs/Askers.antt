-- What is seen of what asks the questions of a run, and what its calls did.
use Rattle.std.specs.Prelude.{◌≡◌, ◌⊎◌, ℕ, Bool, true, false, List, [], ◌∷◌, ◌++◌, map, drop}
use Rattle.std.specs.Prelude.{Option, Some, Result, Ok, Err}
use Rattle.sip_ports.specs.declared.port.TalkEvent.{TalkEvent}
use Rattle.sip_ports.specs.Ports.{GoesOn, outs}
use Rattle.sip_vector.specs.Pieces.{cut}
use Rattle.sip_wire.specs.declared.version.Version.{Version}
use Rattle.sip_replies.specs.declared.asking.AskStop.{AskStop}
use Rattle.sip_replies.specs.declared.asking.AskStop.TheVariants as stops
use Rattle.sip_verifier.specs.declared.asker.Unanswered.{Unanswered}
use Rattle.sip_verifier.specs.declared.asker.Unanswered.TheVariants as unanswered
use Rattle.sip_verifier.specs.declared.session.SessionFault.TheVariants as faults
use Rattle.sip_verifier.specs.Exchanges.{Exchange}
use Rattle.sip_verifier.specs.Keeping.{AllIsKept, FramesAreKept, FrontIsKept, WholeIsKept}
use Rattle.sip_verifier.specs.runs.Asking.{IsAnswered, IsRejected, IsInterrupted, IsUnrecorded}
use Rattle.sip_verifier.specs.runs.Manners.{Asking, Manner}
use Rattle.sip_verifier.specs.runs.Runs.{Run, manner, updates, IsLegalToEnd}
use Rattle.sip_verifier.specs.Talks.{stream_sent}

-- The version of the talk, the depth, the queries that were not asked yet, each with its block, and
-- whether a call failed: then nothing more is asked.
pub record Remaining (Q : Type 0) : Type 0 where
  pub version : Version
  pub depth : ℕ
  pub left : List (Q × List ℕ)
  pub spent : Bool

-- the queries of these, and their blocks
abbrev pub queries_in : {Q : Type 0} → List (Q × List ℕ) → List Q
queries_in left = map (λ ask. ask.0) left

abbrev pub blocks_in : {Q : Type 0} → List (Q × List ℕ) → List (List ℕ)
blocks_in left = map (λ ask. ask.1) left

-- of those that are left this is the first
pub record IsFirst {Q : Type 0} (s : Remaining Q) (ask : Q × List ℕ) : Type 0 where
  pub more : List (Q × List ℕ)
  pub first : s.left ≡ ask ∷ more

-- why a query has no answer, where the talk about it stopped so
abbrev pub unanswered_by : AskStop → Unanswered
unanswered_by (stops.Rejected round reason) = unanswered.Rejected round reason
unanswered_by stops.PeerFault = unanswered.Fault faults.PeerFault
unanswered_by stops.KeepFault = unanswered.Fault faults.KeepFault
unanswered_by stops.OutOfMemory = unanswered.Fault faults.OutOfMemory
unanswered_by stops.KeepOutOfMemory = unanswered.Fault faults.OutOfMemory

-- it has no verdict, since a call of a port failed
abbrev pub has_failed : {G : Type 0} → Result G Unanswered → Bool
has_failed (Err (unanswered.Fault fault)) = true
has_failed (Err (unanswered.Rejected round reason)) = false
has_failed (Ok given) = false

-- what remains behind one query
abbrev pub behind : {Q : Type 0} → Bool → Remaining Q → Remaining Q
behind spent s = record s { left = drop 1 s.left; spent = spent }

-- ---- one query

module _ {Q A : Type 0} (m : Manner Q A) (ask : Q × List ℕ)
    (old new : Option (List TalkEvent)) where
  -- the replies are accepted, and what is given states their answer
  pub record IsGiven (States : A → Type 0) : Type 0 where
    pub answer : A
    pub answered : IsAnswered m ask.0 ask.1 old new answer
    pub states : States answer

  -- What came of a query, where `States` says which answer is stated by what is given.
  abbrev pub Asks : {G : Type 0} → (G → A → Type 0) → Result G Unanswered → Type 0
  Asks States (Ok given) = IsGiven (States given)
  Asks States (Err (unanswered.Rejected round reason)) =
      IsRejected m ask.0 ask.1 old new round reason
  Asks States (Err (unanswered.Fault faults.PeerFault)) = IsInterrupted m ask.0 ask.1 old new
  Asks States (Err (unanswered.Fault faults.KeepFault)) = IsUnrecorded m ask.0 ask.1 old new
  Asks States (Err (unanswered.Fault faults.OutOfMemory)) =
      IsInterrupted m ask.0 ask.1 old new ⊎ IsUnrecorded m ask.0 ask.1 old new

module _ (old new before now : Option (List TalkEvent)) (version : Version) where
  -- what was kept of what was received for it
  abbrev pub KeepsAsked : {G : Type 0} → Result G Unanswered → Type 0
  KeepsAsked (Ok given) = WholeIsKept old new before now version
  KeepsAsked (Err (unanswered.Rejected round reason)) = AllIsKept old new before now
  KeepsAsked (Err (unanswered.Fault faults.PeerFault)) = FramesAreKept old new before now version
  KeepsAsked (Err (unanswered.Fault fault)) = FrontIsKept old new before now

-- ---- all queries

-- All queries of a run are left, each with its block. The stream was legal and was read to its end,
-- and the queries may be asked. What is said from `old` to `new` and what is written from `blank`
-- to `full` is the rest of the exchange.
pub record GoesBehind {Q A : Type 0} (asking : Asking Q A) (r : Run Q) (x : Exchange)
    (s : Remaining Q) (old new blank full : Option (List TalkEvent)) : Type 0 where
  pub version : s.version ≡ r.version
  pub depth : s.depth ≡ r.depth
  pub challenges : List ℕ
  pub drawn : r.challenges ≡ Some challenges
  pub asked : queries_in s.left ≡ r.queries
  pub at_blocks : blocks_in s.left ≡ cut r.depth challenges
  pub legal : IsLegalToEnd r x
  pub read : x.unread ≡ []
  pub may : (manner asking r x).MayAsk r.queries
  pub talk : (said : List TalkEvent) → GoesOn old new said
      → x.talk ≡ stream_sent r.version r.depth (updates r x) ++ said
  pub report : (bytes : List ℕ) → GoesOn blank full (outs bytes) → x.report ≡ bytes
