-- Why an ask stops, and which faults it stops for.
use Rattle.std.specs.Prelude.{ℕ, ⊤}
use Rattle.sip_ports.specs.Ports.{Rose}
use Rattle.sip_ask.specs.declared.status.AskPort.TheVariants as ports
use Rattle.sip_ask.specs.declared.status.AskStatus.{AskStatus}
use Rattle.sip_ask.specs.declared.status.AskStatus.TheVariants as statuses

-- an ask may end so behind its opening, where not all questions were accepted
abbrev pub IsStop : AskStatus → Type 0
IsStop (statuses.Rejected query round reason) = ⊤
IsStop (statuses.WriteFault port) = ⊤
IsStop statuses.PeerFault = ⊤
IsStop statuses.OutOfMemory = ⊤
IsStop _ = ⊥

-- Which count of faults rose where this status is answered: that of the desk, which is a link and
-- has the file of the sketch, or that of the report. A status that is no fault needs none.
module _ (desk_before desk_now report_before report_now : ℕ) where
  abbrev pub HasRisen : AskStatus → Type 0
  HasRisen statuses.PeerFault = Rose desk_before desk_now
  HasRisen statuses.ReadFault = Rose desk_before desk_now
  HasRisen (statuses.WriteFault ports.Sketch) = Rose desk_before desk_now
  HasRisen (statuses.WriteFault ports.Report) = Rose report_before report_now
  HasRisen _ = ⊤
