-- An audit of what a run left: of the transcript that it kept, and of the stream that it read.
use Rattle.std.specs.Prelude.{◌≡◌, ◌≤◌, ◌⊎◌, Bool, true, false, IsTrue, Some, length}
use Rattle.sip_vector.specs.Limits.{most_depth}
use Rattle.sip_wire.specs.Table.{most_queries}
use Rattle.sip_verifier.specs.declared.status.Port.TheVariants as ports
use Rattle.sip_verifier.specs.declared.status.Status.{Status}
use Rattle.sip_verifier.specs.declared.status.Status.TheVariants as statuses
use Rattle.sip_verifier.specs.declared.task.Task.{Task}
use Rattle.sip_verifier.specs.Exchanges.{Exchange}
use Rattle.sip_verifier.specs.Snapshots.{Counts}
use Rattle.sip_verifier.specs.Promises.{Promises}
use Rattle.sip_verifier.specs.Tasks.{CanBeDone}
use Rattle.sip_transcript.specs.Auditing.{Audit, is_verdict}

-- the run came to a verdict, by its promises, and told what it kept
pub record IsStored (task : Task) (x : Exchange) (before now : Counts) (status : Status)
    (a : Audit) : Type 0 where
  pub deep : 1 ≤ task.depth
  pub shallow : task.depth ≤ most_depth
  pub most : length task.queries.items ≤ most_queries
  pub can : CanBeDone task
  pub reached : IsTrue (is_verdict status)
  pub promises : Promises task x before now status
  -- the audit has these bytes
  pub kept : x.kept ≡ Some a.stored
  pub stream : a.stream ≡ x.stream

-- a port failed, or memory ran out
abbrev pub stops_freely : Status → Bool
stops_freely (statuses.ReadFault ports.First) = true
stops_freely (statuses.ReadFault ports.Second) = true
stops_freely (statuses.WriteFault ports.Report) = true
stops_freely statuses.OutOfMemory = true
stops_freely _ = false

-- the audit gives the run's status and wrote its lines, or it stopped for one of these
abbrev pub AuditAgrees : Exchange → Audit → Status → Status → Type 0
AuditAgrees x a status given =
    ((given ≡ status) × (a.report ≡ x.report)) ⊎ IsTrue (stops_freely given)
