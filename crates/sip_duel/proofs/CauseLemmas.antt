-- Why a call of a link stops.
use Rattle.std.proofs.Common.{◌≡◌, ℕ, ◌-◌, ◌<◌, ◌≤◌, Result, Ok, Err, arith, subst}
use Rattle.std.specs.Prelude.{◌^◌, IsErrOf}
use Rattle.sip_ports.specs.declared.port.PortStop.{PortStop}
use Rattle.sip_ports.specs.declared.port.PortStop.TheVariants.{Failed, OutOfMemory}
use Rattle.sip_ports.specs.Ports.{Rose}
use Rattle.sip_ports.proofs.FaultLemmas.{Rose-positive}
use Rattle.sip_verifier.specs.declared.status.Status.{Status}
use Rattle.sip_verifier.specs.declared.status.Status.TheVariants as statuses
use Rattle.sip_verifier.specs.declared.task.Task.{Task}
use Rattle.sip_verifier.specs.Snapshots.{Snapshot}
use Rattle.sip_verifier.specs.RunClause.{RunClause}
use Rattle.sip_verifier.specs.Statuses.{FaultClause}
use Rattle.sip_duel.specs.Receiving.{StopsOnlyByWant}

pub record Caused {T : Type 0} (before now : ℕ) (r : Result T PortStop) : Type 0 where
  pub later : before ≤ now
  pub failed : IsErrOf r Failed → Rose 0 0
  pub wanted : IsErrOf r OutOfMemory → Rose before now

-- a call that stops only for want of memory
pub caused : {T : Type 0} (r : Result T PortStop) (before now : ℕ) → before < 2 ^ 64 → StopsOnlyByWant before now r → Caused before now r
caused (Ok x) before now fit e = record { later = omega (arith, e); failed = λ h. absurd cc; wanted = λ h. absurd cc }
caused (Err Failed) before now fit e = absurd e
caused (Err OutOfMemory) before now fit e = record { later = omega (arith, e, fit); failed = λ h. absurd cc; wanted = λ h. omega (arith, e) }

-- a run over a link that counts no fault never ends by one
pub no_peer_fault : (task : Task) (m n : Snapshot) (s : Status) → RunClause task m n s → n.faults.peer ≡ 0 → s ≡ statuses.PeerFault → ⊥
no_peer_fault task m n s c none e = Rose-positive m.faults.peer n.faults.peer (subst (FaultClause m.faults n.faults) e c.fault) none
