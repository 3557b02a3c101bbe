-- All that a run keeps, from its first three promises and what is kept of its talk.
use Rattle.std.proofs.Common.{◌≡◌, ◌≤◌, true, refl}
use Rattle.std.specs.Prelude.{All, ◌||◌}
use Rattle.std.proofs.lemmas.Bool.{or_left, or_right}
use Rattle.sip_vector.specs.Answers.{Fits}
use Rattle.sip_verifier.specs.declared.session.SessionStart.{SessionStart}
use Rattle.sip_verifier.specs.declared.session.SessionStart.TheVariants as starts
use Rattle.sip_verifier.specs.declared.status.Status.{Status}
use Rattle.sip_verifier.specs.declared.task.Task.{Task}
use Rattle.sip_verifier.specs.Exchanges.{Exchange, Tells}
use Rattle.sip_verifier.specs.Inquiries.{inquiry_of}
use Rattle.sip_verifier.specs.Snapshots.{Counts, Snapshot, IsTold}
use Rattle.sip_verifier.specs.inside.Ending.{status_of_start}
use Rattle.sip_verifier.specs.Concluding.{Ended}
use Rattle.sip_verifier.specs.KeepClause.{KeepClause, Keeps}
use Rattle.sip_verifier.specs.Promises.{Promises}
use Rattle.sip_verifier.specs.RunClause.{RunClause}
use Rattle.sip_verifier.specs.Statuses.{FaultClause, IsListed, is_accepted, stops_gathering, stops_starting, stops_asking}
use Rattle.sip_verifier.specs.Tasks.{CanBeDone}
use Rattle.sip_verifier.proofs.CompleteRuns.{completes}
use Rattle.sip_vector.specs.Limits.{most_depth}
use Rattle.sip_verifier.proofs.JointReports.{task_counted}
use Rattle.sip_verifier.proofs.KeptRuns.{KeptSo, kept_is}
use Rattle.sip_verifier.proofs.ListedStops.{gathering_first}

-- the queries of a task that can be done fit its depth
all_fit : (task : Task) → CanBeDone task → All (Fits task.depth) task.queries.items
all_fit task can i other less = (can.asked i other less).1

module _ (task : Task) (can : CanBeDone task) (some : 1 ≤ task.depth) (most : task.depth ≤ most_depth) where
  -- counts follow from verdicts, and honest helpers from verdicts and causes
  promised : (x : Exchange) (before now : Counts) (status : Status) → IsListed status
      → Ended (inquiry_of task x) x before now status → KeepClause task x status → Promises task x before now status
  promised x before now status listed e keeps =
      let counted = task_counted task x can some status e.verdict listed in
      record {
        verdict = e.verdict;
        talk = e.talk;
        cause = e.cause;
        count = counted.0;
        joint = counted.1;
        complete = completes task x some most (all_fit task can) before now status e.verdict e.cause;
        kept = keeps;
      }

  -- a run keeps all, where each exchange that is told has the first three promises, and what is kept
  -- is so
  pub kept : {before now : Snapshot} {status : Status}
      → ((x : Exchange) → Tells before now x → Ended (inquiry_of task x) x before.faults now.faults status)
      → ((x : Exchange) → Tells before now x → KeptSo task x status before.keep now.keep)
      → (IsTold before → (x : Exchange) × Tells before now x)
      → FaultClause before.faults now.faults status → IsListed status
      → RunClause task before now status
  kept {before = before} {now = now} {status = status} ends keeps moves fault listed = record {
    promises = λ x t.
        let k = keeps x t in
        promised x before.faults now.faults status listed (ends x t) (kept_is (Keeps task x status) before.keep now.keep k.0 x.kept k.1 t.kept k.2);
    moves = moves;
    fault = fault;
    listed = listed;
  }

-- ---- the list of a part is in the list of a run

pub gathering_listed : (status : Status) → stops_gathering status ≡ true → IsListed status
gathering_listed status is =
    or_left (is_accepted status || stops_gathering status || stops_starting status) (stops_asking status) (gathering_first status (stops_starting status) is)

pub starting_listed : (status : Status) → stops_starting status ≡ true → IsListed status
starting_listed status is =
    or_left (is_accepted status || stops_gathering status || stops_starting status) (stops_asking status)
    (or_right (is_accepted status || stops_gathering status) (stops_starting status) is)

pub asking_listed : (status : Status) → stops_asking status ≡ true → IsListed status
asking_listed status is = or_right (is_accepted status || stops_gathering status || stops_starting status) (stops_asking status) is

-- where there is no session the status is one of those, and needs no count
pub start_listed : (start : SessionStart) → IsListed (status_of_start start)
start_listed (starts.TooWide query) = refl
start_listed starts.OutOfMemory = refl

pub start_caused : (start : SessionStart) (before now : Counts) → FaultClause before now (status_of_start start)
start_caused (starts.TooWide query) before now = tt
start_caused starts.OutOfMemory before now = tt
