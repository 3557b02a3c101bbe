-- All that a run of `verify` keeps, from the moment before it to the moment after, with the status
-- that it answers.
use Rattle.sip_verifier.specs.declared.status.Status.{Status}
use Rattle.sip_verifier.specs.declared.task.Task.{Task}
use Rattle.sip_verifier.specs.Exchanges.{Exchange, Tells}
use Rattle.sip_verifier.specs.Snapshots.{Snapshot, IsTold}
use Rattle.sip_verifier.specs.Promises.{Promises}
use Rattle.sip_verifier.specs.Statuses.{FaultClause, IsListed}

pub record RunClause (task : Task) (before now : Snapshot) (status : Status) : Type 0 where
  -- the seven promises, on the exchange that the ports tell
  pub promises : (x : Exchange) → Tells before now x
      → Promises task x before.faults now.faults status
  -- ports that tell go on telling, so there is such an exchange, whether the record of the talk is
  -- told or not
  pub moves : IsTold before → (x : Exchange) × Tells before now x
  -- whatever the ports tell, a fault of a port comes only where its own count rose
  pub fault : FaultClause before.faults now.faults status
  -- no status comes but those of `verify`
  pub listed : IsListed status
