-- What stands where the lookups of a run were to be made over the seats that were gathered.
use Rattle.std.specs.Prelude.{◌≡◌, ◌⊎◌, ◌≤◌, false, Result, Ok, Err, length, replicate}
use Rattle.std.specs.List.{zip}
use Rattle.sip_vector.specs.declared.query.Query.TheVariants.{Sub}
use Rattle.sip_wire.specs.Table.{most_queries}
use Rattle.sip_verifier.specs.declared.status.Status.{Status}
use Rattle.sip_verifier.specs.declared.status.Status.TheVariants.{OutOfMemory}
use Rattle.sip_verifier.specs.declared.task.Task.{Task}
use Rattle.sip_verifier.specs.Seats.{Seating}
use Rattle.sip_lookup.specs.declared.task.LookTask.{LookTask}
use Rattle.sip_lookup.specs.Sittings.{LookSitting}
use Rattle.sip_lookup.specs.Tasks.{version_of}

-- the task whose stream is the same and whose seats are a root for each lookup
pub record IsRooted (task : LookTask) (over : Task) : Type 0 where
  pub depth : over.depth ≡ task.depth
  pub form : over.form ≡ task.form
  pub queries : over.queries.items ≡ replicate (length task.lookups.items) (Sub 0 0)
  pub few : length over.queries.items ≤ most_queries

-- the lookups, each with a seat, none of which was asked yet
abbrev pub IsSeated : LookTask → Result Seating Status → LookSitting → Type 0
IsSeated task gathered looker = (seats : Seating) × (gathered ≡ Ok seats) × (looker ≡ record {
  version = version_of task;
  depth = task.depth;
  left = zip task.lookups.items seats.seats;
  spent = false;
})

-- why there are none: no seats were gathered, or there was no memory for the lookups
abbrev pub IsUnseated : Result Seating Status → Status → Type 0
IsUnseated gathered status =
    (gathered ≡ Err status) ⊎ (seats : Seating) × (gathered ≡ Ok seats) × (status ≡ OutOfMemory)
