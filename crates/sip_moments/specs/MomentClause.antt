-- All that a run keeps that asks for moments, from the moment of its ports before it to the one
-- after, with the status that it answers.
use Rattle.std.specs.Prelude.{Bool, true, false, ◌||◌, IsTrue}
use Rattle.sip_verifier.specs.declared.status.Status.{Status}
use Rattle.sip_verifier.specs.declared.status.Status.TheVariants as statuses
use Rattle.sip_verifier.specs.Exchanges.{Exchange, Tells}
use Rattle.sip_verifier.specs.Snapshots.{IsTold, Snapshot}
use Rattle.sip_verifier.specs.Statuses.{FaultClause, is_accepted, stops_asking, stops_gathering}
use Rattle.sip_verifier.specs.runs.Promises.{Promises}
use Rattle.sip_moments.specs.declared.task.MomentTask.{MomentTask}
use Rattle.sip_moments.specs.Manner.{asking, counting, honesty}
use Rattle.sip_moments.specs.Tasks.{run_of}

-- the run stopped between its stream and its first question
abbrev pub stops_high : Status → Bool
stops_high (statuses.TooHigh _) = true
stops_high statuses.OutOfMemory = true
stops_high _ = false

-- the statuses that the run may answer
abbrev pub IsListed : Status → Type 0
IsListed status =
    IsTrue (is_accepted status || stops_gathering status || stops_high status
    || stops_asking status)

pub record MomentClause (task : MomentTask) (before now : Snapshot) (status : Status)
    : Type 0 where
  -- the promises of a run that asks in this manner, on the exchange that the ports tell
  pub promises : (x : Exchange) → Tells before now x
      → Promises asking counting honesty (run_of task x) x before.faults now.faults status
  -- ports that tell go on telling, so there is such an exchange
  pub moves : IsTold before → (x : Exchange) × Tells before now x
  -- whatever the ports tell, a fault of a port comes only where its own count rose
  pub fault : FaultClause before.faults now.faults status
  -- no status comes but these
  pub listed : IsListed status
