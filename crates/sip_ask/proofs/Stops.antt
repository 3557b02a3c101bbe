-- How an ask ends where one of its parts stopped.
use Rattle.std.proofs.Common.{◌≡◌, ℕ, ◌<◌, ◌≤◌, Result, Ok, Err, List, [], ◌∷◌, ◌++◌, length, take, drop, sym, ap, subst, ◌∙◌, append-nil, arith}
use Rattle.std.specs.Prelude.{IfErr, MatchResult, flat_map}
use Rattle.std.specs.declared.option.Option.{Option}
use Rattle.std.proofs.lemmas.List.{length-map, take-append-drop, take-map}
use Rattle.sip_ports.specs.Ports.{GoesOn, Rose, SendsWhole, outs}
use Rattle.sip_ports.specs.declared.port.PortStop.{PortStop}
use Rattle.sip_ports.specs.declared.port.PortStop.TheVariants as stops
use Rattle.sip_ports.specs.declared.port.TalkEvent.{TalkEvent}
use Rattle.sip_ports.specs.declared.port.TalkEvent.TheVariants.{Out}
use Rattle.sip_ports.proofs.DeskLemmas.{IsOfLink-outs}
use Rattle.sip_ports.proofs.FaultLemmas.{Rose-positive, Rose-since}
use Rattle.sip_ports.proofs.TalkLemmas.{written-outs}
use Rattle.sip_wire.specs.Spelling.{spelling}
use Rattle.sip_wire.specs.declared.message.Message.TheVariants as messages
use Rattle.sip_wire.specs.declared.version.Version.{Version}
use Rattle.sip_verifier.specs.Snapshots.{counts}
use Rattle.sip_verifier.specs.Statuses.{Stops, stops_asking}
use Rattle.sip_verifier.specs.Talks.{bye_sent}
use Rattle.sip_verifier.specs.declared.status.Port.TheVariants as run_ports
use Rattle.sip_verifier.specs.declared.status.Status.{Status}
use Rattle.sip_verifier.specs.declared.status.Status.TheVariants as runs
use Rattle.sip_ask.specs.Asking.{SaysBye}
use Rattle.sip_ask.specs.Causes.{HasRisen, IsStop}
use Rattle.sip_ask.specs.Turns.{IsFarewell}
use Rattle.sip_ask.specs.declared.status.AskPort.TheVariants as ports
use Rattle.sip_ask.specs.declared.status.AskStatus.{AskStatus}
use Rattle.sip_ask.specs.declared.status.AskStatus.TheVariants as statuses
use Rattle.sip_ask.specs.inside.Ending.{of_link, of_report, of_run}
use Rattle.sip_ask.specs.inside.Steps.{IsReportStop}

-- what a call of a port gave, with the status of an ask that stopped there
abbrev pub Becomes : (PortStop → AskStatus) → Result (Unit {0}) PortStop → Result (Unit {0}) AskStatus → Type 0
Becomes status_of came r = MatchResult r (λ x. came ≡ Ok x) (λ status. (stop : PortStop) × (came ≡ Err stop) × (status ≡ status_of stop))

-- it has sent what the call sent
pub sends_on : (status_of : PortStop → AskStatus) (old new : Option (List TalkEvent)) (bytes : List ℕ) (came : Result (Unit {0}) PortStop) (r : Result (Unit {0}) AskStatus)
    → SendsWhole old new came bytes → Becomes status_of came r → SendsWhole old new r bytes
sends_on status_of old new bytes came (Ok x) sent is = subst (λ (c : Result (Unit {0}) PortStop). SendsWhole old new c bytes) is sent
sends_on status_of old new bytes came (Err status) sent (stop, is, same) = subst (λ (c : Result (Unit {0}) PortStop). SendsWhole old new c bytes) is sent

-- ---- the report

pub report_stops : (came : Result (Unit {0}) PortStop) (r : Result (Unit {0}) AskStatus) → Becomes of_report came r → IfErr r IsReportStop
report_stops came (Ok x) is = tt
report_stops came (Err status) (stop, is, same) = subst IsReportStop (sym same) (by_stop stop)
  where
    by_stop : (stop : PortStop) → IsReportStop (of_report stop)
    by_stop stops.Failed = tt
    by_stop stops.OutOfMemory = tt

module _ (desk_before desk_now before now : ℕ) where
  -- where it stopped for a fault, its count rose
  pub report_rose : (came : Result (Unit {0}) PortStop) (r : Result (Unit {0}) AskStatus) → Becomes of_report came r → (came ≡ Err stops.Failed → Rose before now)
      → IfErr r (HasRisen desk_before desk_now before now)
  report_rose came (Ok x) is rose = tt
  report_rose came (Err status) (stop, is, same) rose = subst (HasRisen desk_before desk_now before now) (sym same) (by_stop stop is)
    where
      by_stop : (stop : PortStop) → came ≡ Err stop → HasRisen desk_before desk_now before now (of_report stop)
      by_stop stops.Failed is = rose is
      by_stop stops.OutOfMemory is = tt

  -- whatever the desk counts
  pub report_risen : (desk desks : ℕ) (status : AskStatus) → IsReportStop status → HasRisen desk desks before now status → HasRisen desk_before desk_now before now status
  report_risen desk desks (statuses.WriteFault ports.Report) stop risen = risen
  report_risen desk desks statuses.OutOfMemory stop risen = tt
  report_risen desk desks _ stop risen = absurd stop

-- it is one of the endings behind the opening
pub report_ends : (status : AskStatus) → IsReportStop status → IsStop status
report_ends (statuses.WriteFault ports.Report) stop = tt
report_ends statuses.OutOfMemory stop = tt
report_ends _ stop = absurd stop

-- ---- the link

pub link_stops : (came : Result (Unit {0}) PortStop) (r : Result (Unit {0}) AskStatus) → Becomes of_link came r → IfErr r IsStop
link_stops came (Ok x) is = tt
link_stops came (Err status) (stop, is, same) = subst IsStop (sym same) (by_stop stop)
  where
    by_stop : (stop : PortStop) → IsStop (of_link stop)
    by_stop stops.Failed = tt
    by_stop stops.OutOfMemory = tt

pub link_rose : (before now report_before report_now : ℕ) (came : Result (Unit {0}) PortStop) (r : Result (Unit {0}) AskStatus) → Becomes of_link came r → (came ≡ Err stops.Failed → Rose before now)
    → IfErr r (HasRisen before now report_before report_now)
link_rose before now report_before report_now came (Ok x) is rose = tt
link_rose before now report_before report_now came (Err status) (stop, is, same) rose = subst (HasRisen before now report_before report_now) (sym same) (by_stop stop is)
  where
    by_stop : (stop : PortStop) → came ≡ Err stop → HasRisen before now report_before report_now (of_link stop)
    by_stop stops.Failed is = rose is
    by_stop stops.OutOfMemory is = tt

-- ---- the farewell

module _ (version : Version) (old new : Option (List TalkEvent)) where
  abbrev Farewell : List ℕ
  Farewell = flat_map (spelling version) (messages.Bye ∷ [])

  -- a front of it was said
  front_said : (n : ℕ) → n < length Farewell → GoesOn old new (outs (take n Farewell)) → (k : ℕ) × (k < length (bye_sent version)) × GoesOn old new (take k (bye_sent version))
  front_said n less went = (n, omega (arith, less, length-map Farewell Out), subst (GoesOn old new) (sym (take-map Out n Farewell)) went)

  pub bye_said : (came : Result (Unit {0}) PortStop) (r : Result (Unit {0}) AskStatus) → SendsWhole old new came Farewell → Becomes of_link came r → SaysBye version old new r
  bye_said came (Ok x) sent is = subst (λ (c : Result (Unit {0}) PortStop). SendsWhole old new c Farewell) is sent
  bye_said came (Err status) sent (stop, is, same) =
      let part : SendsWhole {T = Unit {0}} old new (Err stop) Farewell = subst (λ (c : Result (Unit {0}) PortStop). SendsWhole old new c Farewell) is sent in
      subst (λ (s : AskStatus). SaysBye version old new (Err s)) (sym same) (by_stop stop (front_said part.0 part.1 part.2))
    where
      by_stop : (stop : PortStop) → ((k : ℕ) × (k < length (bye_sent version)) × GoesOn old new (take k (bye_sent version))) → SaysBye version old new (Err (of_link stop))
      by_stop stops.Failed said = said
      by_stop stops.OutOfMemory said = said

  -- a front of these bytes is one of the farewell
  is_farewell : (front more : List ℕ) → Farewell ≡ front ++ more → IsFarewell version (outs front)
  is_farewell front more e = record {
    link = IsOfLink-outs front;
    sent = (more, sym (append-nil (spelling version messages.Bye)) ∙ e ∙ ap (λ (l : List ℕ). l ++ more) (sym (written-outs front)));
  }

  pub farewell_said : (came : Result (Unit {0}) PortStop) → SendsWhole old new came Farewell → (said : List TalkEvent) × IsFarewell version said × GoesOn old new said
  farewell_said (Ok x) sent = (outs Farewell, is_farewell Farewell [] (sym (append-nil Farewell)), sent)
  farewell_said (Err stop) (n, less, went) = (outs (take n Farewell), is_farewell (take n Farewell) (drop n Farewell) (sym (take-append-drop n Farewell)), went)

-- ---- a run of questions

pub run_ends : (r : Result (Unit {0}) Status) → IfErr (of_run r) IsStop
run_ends (Ok x) = tt
run_ends (Err (runs.Rejected query round reason)) = tt
run_ends (Err (runs.WriteFault port)) = tt
run_ends (Err runs.PeerFault) = tt
run_ends (Err _) = tt

-- with a record of its talk that never fails
module _ (desk desks report reports keep keeps : ℕ) (none : keeps ≡ 0) where
  abbrev StopsSo : Result (Unit {0}) Status → Type 0
  StopsSo r = Stops stops_asking (counts 0 0 desk report keep) (counts 0 0 desks reports keeps) r

  pub never_unkept : (r : Result (Unit {0}) Status) → StopsSo r → r ≡ Err (runs.WriteFault run_ports.Keep) → ⊥
  never_unkept r so is =
      let kept : StopsSo (Err (runs.WriteFault run_ports.Keep)) = subst StopsSo is so in
      Rose-positive keep keeps kept.1 none

  pub run_rose : (r : Result (Unit {0}) Status) → StopsSo r → IfErr (of_run r) (HasRisen desk desks report reports)
  run_rose (Ok x) so = tt
  run_rose (Err (runs.Rejected query round reason)) so = tt
  run_rose (Err (runs.WriteFault run_ports.Report)) so = so.1
  run_rose (Err (runs.WriteFault run_ports.Keep)) so = absurd (Rose-positive keep keeps so.1 none)
  run_rose (Err (runs.WriteFault _)) so = absurd so.1
  run_rose (Err runs.PeerFault) so = so.1
  run_rose (Err _) so = tt

-- ---- causes of calls in turn

pub risen_since : (earlier before now first then last : ℕ) (status : AskStatus) → earlier ≤ before → first ≤ then → HasRisen before now then last status → HasRisen earlier now first last status
risen_since earlier before now first then last statuses.PeerFault desk report risen = Rose-since earlier before now desk risen
risen_since earlier before now first then last statuses.ReadFault desk report risen = Rose-since earlier before now desk risen
risen_since earlier before now first then last (statuses.WriteFault ports.Sketch) desk report risen = Rose-since earlier before now desk risen
risen_since earlier before now first then last (statuses.WriteFault ports.Report) desk report risen = Rose-since first then last report risen
risen_since earlier before now first then last _ desk report risen = tt

pub risen_if : (earlier before now first then last : ℕ) (r : Result (Unit {0}) AskStatus) → earlier ≤ before → first ≤ then → IfErr r (HasRisen before now then last) → IfErr r (HasRisen earlier now first last)
risen_if earlier before now first then last (Ok x) desk report risen = tt
risen_if earlier before now first then last (Err status) desk report risen = risen_since earlier before now first then last status desk report risen
