-- What a call that draws the challenges did, by the bytes that its port had.
use Rattle.std.specs.Prelude.{◌≡◌, ◌<◌, ◌≤◌, ℕ, List, [], length, Some, None, Result, Ok, Err}
use Rattle.sip_verifier.specs.declared.status.Port.TheVariants as ports
use Rattle.sip_verifier.specs.declared.status.Status.{Status}
use Rattle.sip_verifier.specs.declared.status.Status.TheVariants as statuses
use Rattle.sip_verifier.specs.declared.task.Task.{Task}
use Rattle.sip_verifier.specs.Draws.{drawn, blocks}
use Rattle.sip_verifier.specs.Seats.{AreSeats, Seating}

-- the seed gives these challenges, and the seats have them, before any update
pub record HasDrawn (task : Task) (seed : List ℕ) (seats : Seating) : Type 0 where
  pub challenges : List ℕ
  pub draws : drawn task seed ≡ Some challenges
  pub stand : AreSeats task.depth task.queries.items (blocks task challenges) [] seats

-- the seats are those of the seed's challenges; a seed that gives none is short, or its 32 bytes
-- are spent
abbrev pub Draws : Task → List ℕ → Result Seating Status → Type 0
Draws task seed (Ok seats) = HasDrawn task seed seats
Draws task seed (Err statuses.BadSeed) = length seed < 32
Draws task seed (Err statuses.SeedSpent) = (32 ≤ length seed) × (drawn task seed ≡ None)
Draws task seed (Err (statuses.ReadFault ports.Second)) = Unit {0}
Draws task seed (Err statuses.OutOfMemory) = Unit {0}
Draws task seed (Err _) = ⊥
