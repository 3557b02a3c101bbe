-- What stops the reading of a transcript, and the writing of what it tells.
use Rattle.std.specs.Prelude.{ℕ, Option, Some, None, Result, Ok, Err}
use Rattle.sip_ports.specs.declared.port.PortStop.{PortStop}
use Rattle.sip_ports.specs.declared.port.PortStop.TheVariants as stops
use Rattle.sip_verifier.specs.declared.status.Port.TheVariants as ports
use Rattle.sip_verifier.specs.declared.status.Status.{Status}
use Rattle.sip_verifier.specs.declared.status.Status.TheVariants as statuses
use Rattle.sip_transcript.specs.declared.fault.HeadFault.{HeadFault}
use Rattle.sip_transcript.specs.declared.fault.HeadFault.TheVariants as faults

-- the fault that stands for a stop of the source
abbrev pub fault_of : PortStop → HeadFault
fault_of stops.Failed = faults.ReadFault
fault_of stops.OutOfMemory = faults.OutOfMemory

-- what a field says that begins at this place, or the fault
abbrev pub there_of : {T : Type 0} → Result (Option T) PortStop → ℕ → Result T HeadFault
there_of (Ok (Some x)) at = Ok x
there_of (Ok None) at = Err (faults.Bad at)
there_of (Err stop) at = Err (fault_of stop)

-- the status that stands for a fault of a head
abbrev pub status_of_head : HeadFault → Status
status_of_head (faults.Bad at) = statuses.BadTranscript at
status_of_head faults.ReadFault = statuses.ReadFault ports.Second
status_of_head faults.OutOfMemory = statuses.OutOfMemory

-- for a stop of the source behind it
abbrev pub status_of_source : PortStop → Status
status_of_source stops.Failed = statuses.ReadFault ports.Second
status_of_source stops.OutOfMemory = statuses.OutOfMemory

-- and for a stop of the sink
abbrev pub status_of_sink : PortStop → Status
status_of_sink stops.Failed = statuses.WriteFault ports.Report
status_of_sink stops.OutOfMemory = statuses.OutOfMemory
