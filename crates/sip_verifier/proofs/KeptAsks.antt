-- What a call keeps that asks one query, by what came of it.
use Rattle.std.proofs.Common.{◌≡◌, ◌⊎◌, ◌≤◌, ℕ, Result, Ok, Err, List, refl, inl, inr}
use Rattle.sip_ports.specs.Ports.{Rose}
use Rattle.sip_ports.proofs.FaultLemmas.{Rose-since}
use Rattle.sip_vector.specs.declared.update.Entry.{Entry}
use Rattle.sip_wire.specs.declared.message.Message.{Message}
use Rattle.sip_wire.specs.declared.message.Reason.{Reason}
use Rattle.sip_wire.specs.declared.version.Version.{Version}
use Rattle.sip_replies.specs.declared.asking.AskStop.{AskStop}
use Rattle.sip_replies.specs.declared.asking.AskStop.TheVariants as stops
use Rattle.sip_replies.specs.declared.check.Said.{Said}
use Rattle.sip_replies.specs.declared.check.Said.TheVariants as saids
use Rattle.sip_replies.specs.Asking.{Answers}
use Rattle.sip_replies.specs.Protocols.{Protocol}
use Rattle.sip_verifier.specs.declared.asker.Unanswered.{Unanswered}
use Rattle.sip_verifier.specs.declared.asker.Unanswered.TheVariants.{Fault, Rejected}
use Rattle.sip_verifier.specs.declared.session.SessionFault.{SessionFault}
use Rattle.sip_verifier.specs.declared.session.SessionFault.TheVariants as faults
use Rattle.sip_verifier.specs.AskClause.{AskClause, came_of}
use Rattle.sip_verifier.specs.inside.Judging.{verdict_of}
use Rattle.sip_verifier.specs.Keeping.{AllIsKept, WholeIsKept}
use Rattle.sip_verifier.specs.runs.Askers.{KeepsAsked}
use Rattle.sip_verifier.specs.Snapshots.{SinkState, between}
use Rattle.sip_verifier.proofs.KeptReplies.{replies_kept}

module _ {G : Type 0} (version : Version) (old new before now : SinkState) where
  -- an answer was given
  pub answer_keeps : (given : G) → WholeIsKept old.told new.told before.told now.told version → AskClause version (between old new) (between before now) (Ok given)
  answer_keeps given kept = record { kept = kept; cause = λ is. absurd cc; keep_cause = λ is. absurd cc; memory = λ is. absurd cc }

  -- the replies were rejected
  pub rejection_keeps : (round : ℕ) (reason : Reason) → AllIsKept old.told new.told before.told now.told → AskClause {G = G} version (between old new) (between before now) (Err (Rejected round reason))
  rejection_keeps round reason kept = record { kept = kept; cause = λ is. absurd cc; keep_cause = λ is. absurd cc; memory = λ is. absurd cc }

  -- a port failed or wanted memory
  pub fault_keeps : (fault : SessionFault) → KeepsAsked old.told new.told before.told now.told version {G = G} (Err (Fault fault))
      → (fault ≡ faults.PeerFault → Rose old.faults new.faults) → (fault ≡ faults.KeepFault → Rose before.faults now.faults)
      → (fault ≡ faults.OutOfMemory → Rose old.wants new.wants ⊎ Rose before.wants now.wants)
      → AskClause {G = G} version (between old new) (between before now) (Err (Fault fault))
  fault_keeps fault kept peer keeper memory = record {
    kept = kept;
    cause = λ is. let same : fault ≡ faults.PeerFault = cc in peer same;
    keep_cause = λ is. let same : fault ≡ faults.KeepFault = cc in keeper same;
    memory = λ is. let same : fault ≡ faults.OutOfMemory = cc in memory same;
  }

module _ {G H : Type 0} (version : Version) (old new before now : SinkState) where
  -- what is given does not matter
  pub given_keeps : (one : G) (other : H) → AskClause version (between old new) (between before now) (Ok one) → AskClause version (between old new) (between before now) (Ok other)
  given_keeps one other k = answer_keeps version old new before now other k.kept

  -- nor what would have been given
  pub stop_keeps : (stop : Unanswered) → AskClause {G = G} version (between old new) (between before now) (Err stop) → AskClause {G = H} version (between old new) (between before now) (Err stop)
  stop_keeps (Rejected round reason) k = rejection_keeps version old new before now round reason k.kept
  stop_keeps (Fault faults.PeerFault) k = record { kept = k.kept; cause = λ is. k.cause refl; keep_cause = λ is. absurd cc; memory = λ is. absurd cc }
  stop_keeps (Fault faults.KeepFault) k = record { kept = k.kept; cause = λ is. absurd cc; keep_cause = λ is. k.keep_cause refl; memory = λ is. absurd cc }
  stop_keeps (Fault faults.OutOfMemory) k = record { kept = k.kept; cause = λ is. absurd cc; keep_cause = λ is. absurd cc; memory = λ is. k.memory refl }

-- a later part of the talk stopped, behind one that only the link had
pub later_keeps : {G : Type 0} (version : Version) (old mid new before now : SinkState) (stop : Unanswered)
    → KeepsAsked old.told new.told before.told now.told version {G = G} (Err stop) → old.faults ≤ mid.faults → old.wants ≤ mid.wants
    → (stop ≡ Fault faults.PeerFault → Rose mid.faults new.faults) → (stop ≡ Fault faults.KeepFault → Rose before.faults now.faults)
    → (stop ≡ Fault faults.OutOfMemory → Rose mid.wants new.wants ⊎ Rose before.wants now.wants)
    → AskClause {G = G} version (between old new) (between before now) (Err stop)
later_keeps version old mid new before now stop kept later wants_later peer keeper memory = record {
  kept = kept;
  cause = λ is. let same : stop ≡ Fault faults.PeerFault = cc in Rose-since old.faults mid.faults new.faults later (peer same);
  keep_cause = λ is. let same : stop ≡ Fault faults.KeepFault = cc in keeper same;
  memory = λ is.
      let same : stop ≡ Fault faults.OutOfMemory = cc in
      elim (memory same) [ inl rose ↦ inl (Rose-since old.wants mid.wants new.wants wants_later rose) | inr rose ↦ inr rose ];
}

-- what the general talk did is kept so
module _ {S : Type 0} (P : Protocol S) (request : Message) (block : List ℕ) (old new before now : SinkState) where
  pub asked_keeps : (places : List Entry) (result : Result Said AskStop) → Answers P request block old.told new.told before.told now.told places result
      → (result ≡ Err stops.PeerFault → Rose old.faults new.faults) → (result ≡ Err stops.KeepFault → Rose before.faults now.faults)
      → (result ≡ Err stops.OutOfMemory → Rose old.wants new.wants) → (result ≡ Err stops.KeepOutOfMemory → Rose before.wants now.wants)
      → AskClause P.rules.version (between old new) (between before now) (came_of (verdict_of result))
  asked_keeps places result answers peer keeper memory keeper_memory = by result (replies_kept P request block old.told new.told before.told now.told places result answers) peer keeper memory keeper_memory
    where
      by : (r : Result Said AskStop) → KeepsAsked old.told new.told before.told now.told P.rules.version (came_of (verdict_of r))
          → (r ≡ Err stops.PeerFault → Rose old.faults new.faults) → (r ≡ Err stops.KeepFault → Rose before.faults now.faults)
          → (r ≡ Err stops.OutOfMemory → Rose old.wants new.wants) → (r ≡ Err stops.KeepOutOfMemory → Rose before.wants now.wants)
          → AskClause P.rules.version (between old new) (between before now) (came_of (verdict_of r))
      by (Ok (saids.Number n)) kept peer keeper memory keeper_memory = answer_keeps P.rules.version old new before now _ kept
      by (Ok (saids.Pairs found)) kept peer keeper memory keeper_memory = answer_keeps P.rules.version old new before now _ kept
      by (Err (stops.Rejected round reason)) kept peer keeper memory keeper_memory = rejection_keeps P.rules.version old new before now round reason kept
      by (Err stops.PeerFault) kept peer keeper memory keeper_memory =
          fault_keeps P.rules.version old new before now faults.PeerFault kept (λ is. peer refl) (λ is. absurd cc) (λ is. absurd cc)
      by (Err stops.KeepFault) kept peer keeper memory keeper_memory =
          fault_keeps P.rules.version old new before now faults.KeepFault kept (λ is. absurd cc) (λ is. keeper refl) (λ is. absurd cc)
      by (Err stops.OutOfMemory) kept peer keeper memory keeper_memory =
          fault_keeps P.rules.version old new before now faults.OutOfMemory kept (λ is. absurd cc) (λ is. absurd cc) (λ is. inl (memory refl))
      by (Err stops.KeepOutOfMemory) kept peer keeper memory keeper_memory =
          fault_keeps P.rules.version old new before now faults.OutOfMemory kept (λ is. absurd cc) (λ is. absurd cc) (λ is. inr (keeper_memory refl))
