-- All that a call keeps that draws the challenges, and reads and sends the stream, from the
-- snapshot before it to the snapshot after.
use Rattle.std.specs.Prelude.{◌≡◌, ◌⊎◌, ℕ, List, Some, Err, Result, IfErr, IfOk, IsSome, map}
use Rattle.sip_ports.specs.Ports.{Rose}
use Rattle.sip_verifier.specs.declared.status.Status.{Status}
use Rattle.sip_verifier.specs.declared.status.Status.TheVariants.{OutOfMemory}
use Rattle.sip_verifier.specs.declared.task.Task.{Task}
use Rattle.sip_verifier.specs.declared.weights.Weights.{Weights}
use Rattle.sip_verifier.specs.Exchanges.{TakesAtMost}
use Rattle.sip_verifier.specs.Gathering.{Gathers, legal}
use Rattle.sip_verifier.specs.Keeping.{KeepsHead}
use Rattle.sip_verifier.specs.Seats.{Seating}
use Rattle.sip_verifier.specs.Snapshots.{Counts, Snapshot}
use Rattle.sip_verifier.specs.Statuses.{Stops, stops_gathering}
use Rattle.sip_verifier.specs.Weights.{AreWeights, none}

-- `wants` and `wanted` are how often memory was refused to the ports before and after.
pub record GatherClause (task : Task) (before now : Snapshot) (wants wanted : Counts)
    (gathered : Result Seating Status) (weighed : Weights) : Type 0 where
  -- the seats stand for the stream, which was sent; or why there are none, and what was sent
  pub gathers : (bytes seed : List ℕ) → before.first ≡ Some bytes → before.second ≡ Some seed
      → Gathers task bytes seed now.first before.talk now.talk gathered
  -- what the record of the talk got
  pub kept : (seed : List ℕ) → before.second ≡ Some seed
      → KeepsHead task seed before.keep now.keep gathered
  -- whatever the ports tell, there is a seat for each query
  pub seated : IfOk gathered (λ seats. (seats.depth ≡ task.depth)
      × (map (λ s. s.query) seats.seats ≡ task.queries.items))
  -- the weights are those of the stream, or zeros where it was not read and sent to its end
  pub weights : (bytes : List ℕ) → before.first ≡ Some bytes
      → IfOk gathered (λ _. AreWeights (legal task bytes) weighed)
  pub unweighed : IfErr gathered (λ _. weighed ≡ none)
  -- a fault of a port comes only where its own count rose, and want of memory where one of theirs
  -- did
  pub fault : Stops stops_gathering before.faults now.faults gathered
  pub memory : gathered ≡ Err OutOfMemory → Rose wants.first wanted.first
      ⊎ Rose wants.second wanted.second ⊎ Rose wants.peer wanted.peer ⊎ Rose wants.keep wanted.keep
  -- ports that tell go on telling, and no more of the seed is taken than 32 bytes
  pub told : IsSome before.first → IsSome now.first
  pub also_told : IsSome before.second → IsSome now.second
  pub seed : TakesAtMost 32 before.second now.second
