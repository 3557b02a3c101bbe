-- What stands where the moments of a run were to be asked over the seats that were gathered.
use Rattle.std.specs.Prelude.{◌≡◌, ◌⊎◌, ℕ, List, None, Some, false, Result, Ok, Err}
use Rattle.sip_vector.specs.declared.update.Update.{Update}
use Rattle.sip_verifier.specs.declared.status.Status.{Status}
use Rattle.sip_verifier.specs.declared.status.Status.TheVariants.{OutOfMemory, TooHigh}
use Rattle.sip_verifier.specs.declared.weights.Weights.{Weights}
use Rattle.sip_verifier.specs.Seats.{Seating}
use Rattle.sip_verifier.specs.Weights.{AreWeights}
use Rattle.sip_moments.specs.declared.task.MomentTask.{MomentTask}
use Rattle.sip_moments.specs.Manner.{first_high}
use Rattle.sip_moments.specs.Sittings.{Sitting}
use Rattle.sip_moments.specs.Tasks.{version_of}

-- what asks the moments of a task over these seats, before the first of them
abbrev pub begun : MomentTask → Seating → Sitting
begun task seats = record {
  version = version_of task;
  moments = task.moments.items;
  seats = seats;
  asked = 0;
  spent = false;
}

-- the moments over the seats; by the weights a claim has room for each
abbrev pub IsSeated : MomentTask → Weights → Result Seating Status → Sitting → Type 0
IsSeated task weights gathered questions = (seats : Seating) × (gathered ≡ Ok seats)
    × (questions ≡ begun task seats)
    × ((stream : List Update) → AreWeights stream weights
    → first_high stream task.moments.items ≡ None)

-- why they are not asked: no seats were gathered, or a claim may have no room for one of them, or
-- there was no memory
abbrev pub IsUnseated : MomentTask → Weights → Result Seating Status → Status → Type 0
IsUnseated task weights gathered status = (gathered ≡ Err status)
    ⊎ (seats : Seating) × (gathered ≡ Ok seats)
    × ((status ≡ OutOfMemory) ⊎ (query : ℕ) × (status ≡ TooHigh query)
    × ((stream : List Update) → AreWeights stream weights
    → first_high stream task.moments.items ≡ Some query))
