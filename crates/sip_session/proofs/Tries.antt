-- What came of asking one helper, and of writing its line.
use Rattle.std.proofs.Common.{◌≡◌, ℕ, Option, Some, Result, Ok, Err, List, false, take, drop, inl, inr, refl, sym, ap, subst, ◌∙◌, take-append-drop}
use Rattle.std.specs.Prelude.{All, OnOk}
use Rattle.sip_ports.specs.declared.port.PortStop.{PortStop}
use Rattle.sip_ports.specs.declared.port.PortStop.TheVariants as port_stops
use Rattle.sip_ports.specs.declared.port.TalkEvent.{TalkEvent}
use Rattle.sip_ports.specs.Ports.{SendsWhole}
use Rattle.sip_vector.specs.declared.query.Query.{Query}
use Rattle.sip_vector.specs.declared.update.Update.{Update}
use Rattle.sip_vector.specs.Answers.{Answer}
use Rattle.sip_wire.specs.declared.message.Reason.{Reason}
use Rattle.sip_verifier.specs.declared.asker.Unanswered.{Unanswered}
use Rattle.sip_verifier.specs.declared.asker.Unanswered.TheVariants as unanswered
use Rattle.sip_verifier.specs.declared.session.SessionFault.{SessionFault}
use Rattle.sip_verifier.specs.declared.session.SessionFault.TheVariants as faults
use Rattle.sip_verifier.specs.declared.status.Status.{Status}
use Rattle.sip_verifier.specs.declared.status.Status.TheVariants as statuses
use Rattle.sip_verifier.specs.inside.Ending.{status_of_fault, status_of_report}
use Rattle.sip_verifier.specs.QuerySeats.{StandsFor}
use Rattle.sip_verifier.specs.Reports.{dropped}
use Rattle.sip_verifier.specs.runs.Askers.{Asks, Remaining, behind, has_failed}
use Rattle.sip_verifier.specs.runs.Asking.{IsAnswered, IsRejected}
use Rattle.sip_verifier.specs.runs.Manners.{Manner}
use Rattle.sip_verifier.specs.runs.Progress.{PassesInPart}
use Rattle.sip_verifier.specs.Sittings.{Sitting, remaining_of}
use Rattle.sip_verifier.specs.Snapshots.{counts}
use Rattle.sip_verifier.specs.Statuses.{Stops, stops_asking}
use Rattle.sip_verifier.proofs.QueriesChecked.{OnReport}
use Rattle.sip_session.specs.inside.Trying.{AsksOn, DropsInPart, StopsInLine, Tries}

module _ (m : Manner Query Answer) (ask : Query × List ℕ) (helper number : ℕ) (old new blank full : Option (List TalkEvent)) where
  -- it stopped in a line, whatever of the report stopped
  in_line : (port : PortStop) (status : Status) → status ≡ status_of_report port → StopsInLine m ask helper number old new blank full → Tries m ask helper number old new blank full (Err status)
  in_line port status so part =
      let tries : Tries m ask helper number old new blank full (Err (status_of_report port)) = elim port as (λ p. Tries m ask helper number old new blank full (Err (status_of_report p))) [
        | port_stops.Failed ↦ part
        | port_stops.OutOfMemory ↦ inl part
      ] in
      subst (λ (s : Status). Tries m ask helper number old new blank full (Err s)) (sym so) tries

  -- a front of the line of its answer was written
  pub line_cut : (answer : Answer) (written : Result (Unit {0}) PortStop) (status : Status) → IsAnswered m ask.0 ask.1 old new answer → SendsWhole blank full written (m.line ask.0 answer)
      → OnReport written (Err status) → Tries m ask helper number old new blank full (Err status)
  line_cut answer (Ok u) status answered sent (port, is, so) = absurd cc
  line_cut answer (Err stop) status answered (n, less, went) (port, is, so) =
      let text = m.line ask.0 answer in
      let part : PassesInPart m ask.0 ask.1 number old new blank full = record { answer = answer; answered = answered; part = take n text; front = (drop n text, sym (take-append-drop n text)); wrote = went } in
      in_line port status so (inl part)

  -- a front of the line of its drop was written
  pub drop_cut : (round : ℕ) (reason : Reason) (written : Result (Unit {0}) PortStop) (status : Status) → IsRejected m ask.0 ask.1 old new round reason
      → SendsWhole blank full written (dropped helper number round reason) → OnReport written (Err status) → Tries m ask helper number old new blank full (Err status)
  drop_cut round reason (Ok u) status rejected sent (port, is, so) = absurd cc
  drop_cut round reason (Err stop) status rejected (n, less, went) (port, is, so) =
      let text = dropped helper number round reason in
      let part : DropsInPart m ask helper number old new blank full =
      record { round = round; reason = reason; rejected = rejected; part = take n text; front = (drop n text, sym (take-append-drop n text)); wrote = went } in
      in_line port status so (inr part)

-- the same where the helper was closed before, which leaves its talk as it was
pub drop_cut_closed : (m : Manner Query Answer) (ask : Query × List ℕ) (helper number : ℕ) (old : Option (List TalkEvent)) (mid new : List TalkEvent) (blank full : Option (List TalkEvent)) (round : ℕ) (reason : Reason) (written : Result (Unit {0}) PortStop) (status : Status) → new ≡ mid
    → IsRejected m ask.0 ask.1 old (Some mid) round reason → SendsWhole blank full written (dropped helper number round reason) → OnReport written (Err status) → Tries m ask helper number old (Some new) blank full (Err status)
drop_cut_closed m ask helper number old mid new blank full round reason written status same rejected sent on =
    drop_cut m ask helper number old (Some new) blank full round reason written status (subst (λ (t : List TalkEvent). IsRejected m ask.0 ask.1 old (Some t) round reason) (sym same) rejected) sent on

-- it has no verdict, and nothing was written; no port failed
pub fault_tried : {G : Type 0} (m : Manner Query Answer) (ask : Query × List ℕ) (helper number : ℕ) (old new blank : Option (List TalkEvent)) (States : G → Answer → Type 0) (fault : SessionFault)
    → Asks m ask old new {G = G} States (Err (unanswered.Fault fault)) → (fault ≡ faults.PeerFault → ⊥) → (fault ≡ faults.KeepFault → ⊥)
    → Tries m ask helper number old new blank blank (Err (status_of_fault fault))
fault_tried m ask helper number old new blank States faults.PeerFault asks no_peer no_keep = absurd (no_peer refl)
fault_tried m ask helper number old new blank States faults.KeepFault asks no_peer no_keep = absurd (no_keep refl)
fault_tried m ask helper number old new blank States faults.OutOfMemory (inl asks) no_peer no_keep = inr (inl (record { interrupted = asks; same = refl }))
fault_tried m ask helper number old new blank States faults.OutOfMemory (inr asks) no_peer no_keep = inr (inr (record { unrecorded = asks; same = refl }))

-- ---- what ends a call is no rejection

-- no stop of the report is one
pub line_goes_on : {T : Type 0} (written : Result (Unit {0}) PortStop) (status : Status) → OnReport written (Err status) → (query round : ℕ) (reason : Reason) → ◌≡◌ {A = Result T Status} (Err status) (Err (statuses.Rejected query round reason)) → ⊥
line_goes_on written status (port_stops.Failed, is, so) query round reason e = absurd cc
line_goes_on written status (port_stops.OutOfMemory, is, so) query round reason e = absurd cc

-- nor is a fault
pub fault_goes_on : {T : Type 0} (fault : SessionFault) (query round : ℕ) (reason : Reason) → ◌≡◌ {A = Result T Status} (Err (status_of_fault fault)) (Err (statuses.Rejected query round reason)) → ⊥
fault_goes_on faults.PeerFault query round reason e = absurd cc
fault_goes_on faults.KeepFault query round reason e = absurd cc
fault_goes_on faults.OutOfMemory query round reason e = absurd cc

-- ---- what is kept of the session

module _ {T G : Type 0} (old new : Sitting) (stand : (stream : List Update) → All (StandsFor old.depth stream) old.left → All (StandsFor new.depth stream) new.left)
    (asked : Result G Unanswered) (behind_it : remaining_of new ≡ behind (has_failed asked) (remaining_of old)) (faults faulted : ℕ) where
  -- what came of the query, where the session goes on or the call stops
  pub asks_on : (r : Result T Status) → OnOk r (has_failed asked ≡ false) → Stops stops_asking (counts 0 0 0 faults 0) (counts 0 0 0 faulted 0) r → AsksOn old new faults faulted r
  asks_on r well fault = record {
    stands = stand;
    version = ap (λ (s : Remaining Query). s.version) behind_it;
    depth = ap (λ (s : Remaining Query). s.depth) behind_it;
    live = live r well;
    fault = fault;
  }
    where
      live : (r : Result T Status) → OnOk r (has_failed asked ≡ false) → OnOk r (new.spent ≡ false)
      live (Ok x) well = ap (λ (s : Remaining Query). s.spent) behind_it ∙ well
      live (Err status) well = tt
