-- The status of an ask, by what stopped.
use Rattle.std.specs.Prelude.{Result, Ok, Err}
use Rattle.sip_ports.specs.declared.port.PortStop.{PortStop}
use Rattle.sip_ports.specs.declared.port.PortStop.TheVariants as stops
use Rattle.sip_verifier.specs.declared.status.Status.{Status}
use Rattle.sip_verifier.specs.declared.status.Status.TheVariants as runs
use Rattle.sip_ask.specs.declared.status.AskPort.TheVariants as ports
use Rattle.sip_ask.specs.declared.status.AskStatus.{AskStatus}
use Rattle.sip_ask.specs.declared.status.AskStatus.TheVariants as statuses

-- where the link stopped
abbrev pub of_link : PortStop → AskStatus
of_link stops.Failed = statuses.PeerFault
of_link stops.OutOfMemory = statuses.OutOfMemory

-- where the report stopped
abbrev pub of_report : PortStop → AskStatus
of_report stops.Failed = statuses.WriteFault ports.Report
of_report stops.OutOfMemory = statuses.OutOfMemory

-- where a run of questions stopped so behind its opening, without a record of its talk
abbrev pub stopped : Status → AskStatus
stopped (runs.Rejected query round reason) = statuses.Rejected query round reason
stopped (runs.WriteFault port) = statuses.WriteFault ports.Report
stopped runs.PeerFault = statuses.PeerFault
stopped _ = statuses.OutOfMemory

abbrev pub of_run : Result (Unit {0}) Status → Result (Unit {0}) AskStatus
of_run (Ok done) = Ok done
of_run (Err status) = Err (stopped status)
