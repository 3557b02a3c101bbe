-- What `audit` promises of a stored stream, of a transcript, and of what it writes.
--
-- A transcript that begins with the head of a run is replayed: the run sent the stored stream,
-- heard a front of the bytes behind the head, and found the end only where none of them is left.
-- Each line and each status comes by the clauses of such a run at the head's challenges, which
-- `run` keeps too. With a verdict both files were read to their ends. `BadTranscript` comes exactly
-- where a field of the head is not there, and then nothing is written; or where bytes follow those
-- that a verdict took, whose lines are written then. Where a read of the transcript failed, nothing
-- is written yet, or what a run writes whose link fails there, or all of a verdict; and so where
-- memory ran out.
use Rattle.std.specs.Prelude.{◌≡◌, ◌≢◌, ◌⊎◌, ℕ, ◌+◌, Bool, true, false, ◌||◌, IsSome, IsTrue, List}
use Rattle.std.specs.Prelude.{[], length, map, Some, None}
use Rattle.std.specs.List.{flat_map}
use Rattle.sip_ports.specs.declared.port.TalkEvent.{TalkEvent}
use Rattle.sip_stream.specs.declared.form.Form.{Form}
use Rattle.sip_wire.specs.declared.version.Version.{Version}
use Rattle.sip_wire.specs.Transcript.{transcript}
use Rattle.sip_verifier.specs.declared.status.Port.TheVariants as ports
use Rattle.sip_verifier.specs.declared.status.Status.{Status}
use Rattle.sip_verifier.specs.declared.status.Status.TheVariants as statuses
use Rattle.sip_verifier.specs.Concluding.{Ended}
use Rattle.sip_verifier.specs.Exchanges.{Appends, Exchange}
use Rattle.sip_verifier.specs.Inquiries.{Inquiry}
use Rattle.sip_verifier.specs.Snapshots.{Counts, Snapshot}
use Rattle.sip_verifier.specs.Statuses.{FaultClause}
use Rattle.sip_transcript.specs.Fields.{head_fault}
use Rattle.sip_transcript.specs.Heads.{Ask, IsRun}
use Rattle.sip_transcript.specs.Replaying.{Follows}

-- what a head says was asked
pub record StoredQuestions : Type 0 where
  pub version : Version
  pub depth : ℕ
  pub asks : List Ask

-- of a stream in this form
abbrev pub inquiry_in : Form → StoredQuestions → Inquiry
inquiry_in form asked = record {
  version = asked.version;
  depth = asked.depth;
  form = form;
  queries = map (λ ask. ask.0) asked.asks;
  challenges = Some (flat_map (λ ask. ask.1) asked.asks);
}

-- what an audit moved through its ports
pub record Audit : Type 0 where
  -- the bytes that the stream had to give, and those that it still has
  pub stream : List ℕ
  pub unread : List ℕ
  -- the bytes that the transcript had to give, and those that it still has
  pub stored : List ℕ
  pub left : List ℕ
  -- the bytes that are new on the report
  pub report : List ℕ

-- the ports tell this audit by what they told before and what they tell after
pub record TellsAudit (old new : Snapshot) (a : Audit) : Type 0 where
  pub stream : old.first ≡ Some a.stream
  pub unread : new.first ≡ Some a.unread
  pub stored : old.second ≡ Some a.stored
  pub left : new.second ≡ Some a.left
  pub report : Appends old.report new.report (Some a.report)

-- ---- the run that is replayed

-- its link has failed as often as the transcript's source
abbrev pub over_source : Counts → Counts
over_source counts = record counts { peer = counts.second }

module _ (form : Form) (a : Audit) where
  -- The transcript has the head of a run, and other bytes behind it. This is the talk of a run that
  -- heard a front of these; `more` are left.
  pub record Replay : Type 0 where
    pub asked : StoredQuestions
    pub is_run : IsRun asked.version asked.depth asked.asks
    pub behind : List ℕ
    pub stored : a.stored ≡ transcript asked.version asked.depth asked.asks behind
    pub talk : List TalkEvent
    pub more : List ℕ
    pub follows : Follows behind talk more

  -- what it moved, had the stored stream been its own
  abbrev pub exchange_of : Replay → Exchange
  exchange_of p = record {
    stream = a.stream;
    unread = a.unread;
    seed = [];
    talk = p.talk;
    report = a.report;
    kept = None;
  }

  -- it ended so, by the clauses of a run
  abbrev pub EndsSo : Counts → Counts → Status → Replay → Type 0
  EndsSo before now status p =
      Ended (inquiry_in form p.asked) (exchange_of p) (over_source before) (over_source now) status

-- ---- the statuses

-- a verdict was reached on the last query, or one before it was rejected
abbrev pub is_verdict : Status → Bool
is_verdict statuses.Accepted = true
is_verdict (statuses.Rejected query round reason) = true
is_verdict _ = false

-- the audit stopped otherwise
abbrev pub stops_auditing : Status → Bool
stops_auditing (statuses.BadTranscript at) = true
stops_auditing (statuses.BadStream at why) = true
stops_auditing (statuses.TooWide query) = true
stops_auditing (statuses.ReadFault ports.First) = true
stops_auditing (statuses.ReadFault ports.Second) = true
stops_auditing (statuses.WriteFault ports.Report) = true
stops_auditing statuses.OutOfMemory = true
stops_auditing _ = false

-- the statuses that an audit may answer
abbrev pub EndsAudit : Status → Type 0
EndsAudit status = IsTrue (is_verdict status || stops_auditing status)

module _ (form : Form) (a : Audit) (before now : Counts) where
  -- a run that is replayed ended so
  abbrev pub Ends : Status → Type 0
  Ends status = (p : Replay form a) × EndsSo form a before now status p

  -- and both files were read to their ends
  abbrev pub EndsWhole : Status → Type 0
  EndsWhole status = (p : Replay form a) × EndsSo form a before now status p × (p.more ≡ [])
      × (a.left ≡ []) × (a.unread ≡ [])

  -- a verdict was reached, and bytes are left, which begin at this place
  pub record HasMore (at : ℕ) : Type 0 where
    pub verdict : Status
    pub reached : IsTrue (is_verdict verdict)
    pub replay : Replay form a
    pub ends : EndsSo form a before now verdict replay
    pub some : replay.more ≢ []
    pub place : at + length replay.more ≡ length a.stored

  -- nothing is written yet, or what such a run writes that comes to this, or to a verdict
  abbrev pub StopsAt : Status → Type 0
  StopsAt status = (a.report ≡ [])
      ⊎ ((ended : Status) × (IsTrue (is_verdict ended) ⊎ (ended ≡ status)) × Ends ended)

  abbrev pub Audits : Status → Type 0
  Audits statuses.Accepted = EndsWhole statuses.Accepted
  Audits (statuses.Rejected query round reason) =
      EndsWhole (statuses.Rejected query round reason)
  Audits (statuses.BadTranscript at) =
      ((head_fault a.stored ≡ Some at) × (a.report ≡ [])) ⊎ HasMore at
  Audits (statuses.BadStream at why) = Ends (statuses.BadStream at why)
  Audits (statuses.TooWide query) = Ends (statuses.TooWide query)
  Audits (statuses.ReadFault ports.First) = Replay form a × (a.report ≡ [])
  Audits (statuses.ReadFault ports.Second) = StopsAt statuses.PeerFault
  Audits (statuses.WriteFault ports.Report) = Ends (statuses.WriteFault ports.Report)
  Audits statuses.OutOfMemory = StopsAt statuses.OutOfMemory
  Audits _ = ⊥

-- all that an audit keeps, from the moment before it to the moment after
pub record AuditClause (form : Form) (before now : Snapshot) (status : Status) : Type 0 where
  -- the promises, on what the ports tell
  pub audits : (a : Audit) → TellsAudit before now a
      → Audits form a before.faults now.faults status
  -- ports that tell go on telling
  pub moves : IsSome before.first → IsSome before.second → IsSome before.report
      → (a : Audit) × TellsAudit before now a
  -- whatever the ports tell, a fault of a port comes only where its own count rose
  pub fault : FaultClause before.faults now.faults status
  -- no status comes but those of `audit`
  pub listed : EndsAudit status
