-- What a call keeps that asks queries and writes their lines, by what its parts keep.
use Rattle.std.proofs.Common.{◌≡◌, ◌⊎◌, ◌≤◌, ℕ, Result, Ok, Err, refl, sym, subst, inl, inr}
use Rattle.std.specs.Prelude.{IsErrOf, IsTrue}
use Rattle.sip_ports.specs.declared.port.PortStop.{PortStop}
use Rattle.sip_ports.specs.declared.port.PortStop.TheVariants as port_stops
use Rattle.sip_ports.specs.Ports.{Rose}
use Rattle.sip_ports.proofs.FaultLemmas.{Rose-since}
use Rattle.sip_wire.specs.declared.message.Reason.{Reason}
use Rattle.sip_wire.specs.declared.version.Version.{Version}
use Rattle.sip_verifier.specs.declared.asker.Unanswered.TheVariants.{Fault}
use Rattle.sip_verifier.specs.declared.session.SessionFault.{SessionFault}
use Rattle.sip_verifier.specs.declared.session.SessionFault.TheVariants as faults
use Rattle.sip_verifier.specs.declared.status.Port.TheVariants as ports
use Rattle.sip_verifier.specs.declared.status.Status.{Status}
use Rattle.sip_verifier.specs.declared.status.Status.TheVariants as statuses
use Rattle.sip_verifier.specs.AskClause.{AskClause}
use Rattle.sip_verifier.specs.CheckClause.{CheckClause}
use Rattle.sip_verifier.specs.inside.Ending.{status_of_fault}
use Rattle.sip_verifier.specs.Keeping.{AllIsKept, KeepsTalk, WholeIsKept}
use Rattle.sip_verifier.specs.Snapshots.{Counts, SinkState, between, counts}
use Rattle.sip_verifier.specs.Statuses.{FaultClause, Stops, stops_asking}
use Rattle.sip_verifier.proofs.KeptQueries.{kept_then}
use Rattle.sip_verifier.proofs.QueriesChecked.{OnLink, OnReport, since_before}

-- ---- where a port stopped

-- the report's stop has its cause, and is one of those at queries
pub line_stops : (before now : Counts) (written : Result (Unit {0}) PortStop) (r : Result (Unit {0}) Status) → OnReport written r
    → (IsErrOf written port_stops.Failed → Rose before.report now.report) → Stops stops_asking before now r
line_stops before now written (Ok u) on cause = tt
line_stops before now written (Err status) (port_stops.Failed, is, stops) cause = subst (λ (s : Status). IsTrue (stops_asking s) × FaultClause before now s) (sym stops) (refl, cause is)
line_stops before now written (Err status) (port_stops.OutOfMemory, is, stops) cause = subst (λ (s : Status). IsTrue (stops_asking s) × FaultClause before now s) (sym stops) (refl, tt)

-- it wanted memory where that is the status
line_wanted : (written : Result (Unit {0}) PortStop) (r : Result (Unit {0}) Status) → OnReport written r → r ≡ Err statuses.OutOfMemory → written ≡ Err port_stops.OutOfMemory
line_wanted written (Ok u) on is = absurd cc
line_wanted written (Err status) (port_stops.Failed, was, so) is = absurd cc
line_wanted written (Err status) (port_stops.OutOfMemory, was, so) is = was

-- and so did the link
pub link_wanted : (sent : Result (Unit {0}) PortStop) (r : Result (Unit {0}) Status) → OnLink sent r → r ≡ Err statuses.OutOfMemory → sent ≡ Err port_stops.OutOfMemory
link_wanted sent (Ok u) on is = absurd cc
link_wanted sent (Err status) (port_stops.Failed, was, so) is = absurd cc
link_wanted sent (Err status) (port_stops.OutOfMemory, was, so) is = was

-- ---- one query

module _ (version : Version) (old new blank full before now : SinkState) where
  -- all went well
  pub well_keeps : WholeIsKept old.told new.told before.told now.told version → CheckClause version (between old new) (between blank full) (between before now) (Ok tt)
  well_keeps kept = record { kept = kept; fault = λ first firsts second seconds. tt; memory = λ is. absurd cc }

  -- its line was written, whole or not
  pub line_keeps : (written : Result (Unit {0}) PortStop) (r : Result (Unit {0}) Status) → OnReport written r
      → (IsErrOf written port_stops.Failed → Rose blank.faults full.faults) → (IsErrOf written port_stops.OutOfMemory → Rose blank.wants full.wants)
      → KeepsTalk old.told new.told before.told now.told version r → CheckClause version (between old new) (between blank full) (between before now) r
  line_keeps written r on failed wanted kept = record {
    kept = kept;
    fault = λ first firsts second seconds. line_stops _ _ written r on failed;
    memory = λ is. inr (inl (wanted (line_wanted written r on is)));
  }

  -- the line of its rejection was written
  pub rejected_keeps : (query round : ℕ) (reason : Reason) → AllIsKept old.told new.told before.told now.told
      → CheckClause version (between old new) (between blank full) (between before now) (Err (statuses.Rejected query round reason))
  rejected_keeps query round reason kept = record { kept = kept; fault = λ first firsts second seconds. (refl, tt); memory = λ is. absurd cc }

  -- it has no verdict
  pub unjudged_keeps : {G : Type 0} (fault : SessionFault) → AskClause {G = G} version (between old new) (between before now) (Err (Fault fault))
      → CheckClause version (between old new) (between blank full) (between before now) (Err (status_of_fault fault))
  unjudged_keeps faults.PeerFault k = record { kept = k.kept; fault = λ first firsts second seconds. (refl, k.cause refl); memory = λ is. absurd cc }
  unjudged_keeps faults.KeepFault k = record { kept = k.kept; fault = λ first firsts second seconds. (refl, k.keep_cause refl); memory = λ is. absurd cc }
  unjudged_keeps faults.OutOfMemory k = record {
    kept = k.kept;
    fault = λ first firsts second seconds. (refl, tt);
    memory = λ is. elim (k.memory refl) [ inl rose ↦ inl rose | inr rose ↦ inr (inr rose) ];
  }

-- ---- several queries

-- the report's fault has its cause since an earlier moment of it
pub report_since : (first second peer keep blank half : ℕ) (now : Counts) (status : Status) → blank ≤ half → FaultClause (counts first second peer half keep) now status
    → FaultClause (counts first second peer blank keep) now status
report_since first second peer keep blank half now (statuses.ReadFault ports.First) less fault = fault
report_since first second peer keep blank half now (statuses.ReadFault ports.Second) less fault = fault
report_since first second peer keep blank half now (statuses.ReadFault ports.Report) less fault = fault
report_since first second peer keep blank half now (statuses.ReadFault ports.Keep) less fault = fault
report_since first second peer keep blank half now (statuses.WriteFault ports.First) less fault = fault
report_since first second peer keep blank half now (statuses.WriteFault ports.Second) less fault = fault
report_since first second peer keep blank half now (statuses.WriteFault ports.Report) less fault = Rose-since blank half now.report less fault
report_since first second peer keep blank half now (statuses.WriteFault ports.Keep) less fault = fault
report_since first second peer keep blank half now statuses.PeerFault less fault = fault
report_since first second peer keep blank half now _ less fault = tt

-- neither count of it falls
pub record IsLater (one other : SinkState) : Type 0 where
  pub later : one.faults ≤ other.faults
  pub wants_later : one.wants ≤ other.wants

module _ (version : Version) (old mid new blank half full before during now : SinkState) (whole : WholeIsKept old.told mid.told before.told during.told version)
    (peer : IsLater old mid) (report : IsLater blank half) (keep : IsLater before during) where
  stops_since : (first firsts second seconds : ℕ) (r : Result (Unit {0}) Status)
      → Stops stops_asking (counts first second mid.faults half.faults during.faults) (counts firsts seconds new.faults full.faults now.faults) r
      → Stops stops_asking (counts first second old.faults blank.faults before.faults) (counts firsts seconds new.faults full.faults now.faults) r
  stops_since first firsts second seconds (Ok u) stops = tt
  stops_since first firsts second seconds (Err status) (is, fault) = (
    is,
    report_since first second old.faults before.faults blank.faults half.faults (counts firsts seconds new.faults full.faults now.faults) status report.later
        (since_before first firsts second seconds old.faults mid.faults new.faults half.faults full.faults before.faults during.faults now.faults status peer.later keep.later fault),
  )

  wanted_since : Rose mid.wants new.wants ⊎ Rose half.wants full.wants ⊎ Rose during.wants now.wants → Rose old.wants new.wants ⊎ Rose blank.wants full.wants ⊎ Rose before.wants now.wants
  wanted_since (inl rose) = inl (Rose-since old.wants mid.wants new.wants peer.wants_later rose)
  wanted_since (inr (inl rose)) = inr (inl (Rose-since blank.wants half.wants full.wants report.wants_later rose))
  wanted_since (inr (inr rose)) = inr (inr (Rose-since before.wants during.wants now.wants keep.wants_later rose))

  -- one more behind those that were accepted
  pub checked_then : (r : Result (Unit {0}) Status) → CheckClause version (between mid new) (between half full) (between during now) r → CheckClause version (between old new) (between blank full) (between before now) r
  checked_then r k = record {
    kept = kept_then version old.told mid.told new.told before.told during.told now.told whole r k.kept;
    fault = λ first firsts second seconds. stops_since first firsts second seconds r (k.fault first firsts second seconds);
    memory = λ is. wanted_since (k.memory is);
  }
