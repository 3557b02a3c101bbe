-- How far an audit has come. (For the parts of `audit` alone.)
use Rattle.std.specs.Prelude.{◌≡◌, ◌≢◌, ◌⊎◌, ℕ, ⊤, List, [], length, map, Option, Some, None}
use Rattle.std.specs.Prelude.{Result, Ok, Err}
use Rattle.std.specs.List.{flat_map}
use Rattle.sip_ports.specs.declared.port.TalkEvent.{TalkEvent}
use Rattle.sip_stream.specs.Records.{records}
use Rattle.sip_vector.specs.Pieces.{cut}
use Rattle.sip_wire.specs.declared.version.Version.{Version}
use Rattle.sip_wire.specs.Transcript.{transcript}
use Rattle.sip_verifier.specs.declared.status.Port.TheVariants as ports
use Rattle.sip_verifier.specs.declared.status.Status.{Status}
use Rattle.sip_verifier.specs.declared.status.Status.TheVariants as statuses
use Rattle.sip_verifier.specs.declared.task.Task.{Task}
use Rattle.sip_verifier.specs.Concluding.{Ended, GoesBehind, status_of}
use Rattle.sip_verifier.specs.Exchanges.{Appends, Exchange}
use Rattle.sip_verifier.specs.Inquiries.{Inquiry}
use Rattle.sip_verifier.specs.Snapshots.{Counts}
use Rattle.sip_verifier.specs.Seats.{AreSeats, Seating}
use Rattle.sip_verifier.specs.Sittings.{Sitting, Starts}
use Rattle.sip_verifier.specs.Statuses.{FaultClause}
use Rattle.sip_verifier.specs.Widths.{first_wide}
use Rattle.sip_transcript.specs.Auditing.{Audit}
use Rattle.sip_transcript.specs.Heads.{Ask, IsRun}
use Rattle.sip_transcript.specs.Replaying.{Follows, heard_count}

-- ---- the head

-- the queries of a task and these numbers, their challenges, are those of a run that a head tells
-- of
pub record AreAsked (version : Version) (task : Task) (numbers : List ℕ) (asks : List Ask)
    : Type 0 where
  pub is_run : IsRun version task.depth asks
  pub queries : task.queries.items ≡ map (λ ask. ask.0) asks
  pub challenges : numbers ≡ flat_map (λ ask. ask.1) asks

-- The ports told this audit from the head of its transcript on: what the first two had then and
-- have at last, and what the report told.
pub record TellsBehind (version : Version) (depth : ℕ) (asks : List Ask) (a : Audit)
    (first rest second others : Option (List ℕ)) (old new : Option (List TalkEvent))
    : Type 0 where
  pub stream : first ≡ Some a.stream
  pub unread : rest ≡ Some a.unread
  pub behind : List ℕ
  pub had : second ≡ Some behind
  pub stored : a.stored ≡ transcript version depth asks behind
  pub left : others ≡ Some a.left
  pub report : Appends old new (Some a.report)

-- ---- the stream

module _ (version : Version) (task : Task) (challenges bytes : List ℕ)
    (left : Option (List ℕ)) where
  -- the stream was read to its end, and the session's seats stand for it
  pub record IsBegun (s : Sitting) : Type 0 where
    pub seats : Seating
    pub stand : AreSeats task.depth task.queries.items (cut task.depth challenges)
        (records task.depth task.form bytes).legal seats
    pub starts : Starts version seats (Ok s)
    pub legal : (records task.depth task.form bytes).fault ≡ None
    pub read : left ≡ Some []

  -- there is a session, or why there is none
  abbrev pub Begins : Result Sitting Status → Type 0
  Begins (Ok s) = IsBegun s
  Begins (Err (statuses.BadStream at why)) =
      (at ≡ length (records task.depth task.form bytes).legal)
      × ((records task.depth task.form bytes).fault ≡ Some why)
  Begins (Err (statuses.TooWide query)) =
      ((records task.depth task.form bytes).fault ≡ None)
      × (first_wide (records task.depth task.form bytes).legal task.queries.items
      ≡ Some query)
  Begins (Err (statuses.ReadFault ports.First)) = ⊤
  Begins (Err statuses.OutOfMemory) = ⊤
  Begins (Err _) = ⊥

-- ---- the queries

-- The queries were asked of a source with these bytes. So many of them were heard, and others are
-- left; and the run ended by its clauses, whatever came before its queries.
pub record IsReplayed (s : Sitting) (bytes : List ℕ) (left : Option (List ℕ)) (taken : ℕ)
    (blank full : Option (List TalkEvent)) (result : Result (Unit {0}) Status) : Type 0 where
  pub talk : List TalkEvent
  pub more : List ℕ
  pub is_left : left ≡ Some more
  pub follows : Follows bytes talk more
  pub counted : taken ≡ heard_count talk
  pub ends : (i : Inquiry) (x : Exchange) (before now : Counts)
      → GoesBehind i x s (Some []) (Some talk) blank full
      → FaultClause before now (status_of result) → Ended i x before now (status_of result)

-- the verdict that the queries came to, or the status where they came to none
abbrev pub judged : Result (Unit {0}) Status → Result Status Status
judged (Ok _) = Ok statuses.Accepted
judged (Err (statuses.Rejected query round reason)) =
    Ok (statuses.Rejected query round reason)
judged (Err statuses.PeerFault) = Err (statuses.ReadFault ports.Second)
judged (Err status) = Err status

-- ---- the end

-- How an audit ends with a verdict, where what is left begins at a place. Nothing is left, or more
-- is, or the source stopped; of a place that has no number no more is said.
abbrev pub EndsBy : Status → Option ℕ → Option (List ℕ) → Option (List ℕ) → Status → Type 0
EndsBy verdict place old new status =
    ((status ≡ verdict) × ((bytes : List ℕ) → old ≡ Some bytes → (bytes ≡ []) × (new ≡ Some [])))
    ⊎ ((at : ℕ) × (place ≡ Some at) × (status ≡ statuses.BadTranscript at)
    × ((bytes : List ℕ) → old ≡ Some bytes → bytes ≢ []))
    ⊎ (status ≡ statuses.ReadFault ports.Second)
    ⊎ (status ≡ statuses.OutOfMemory)
