-- The status that a stop of one part of a run becomes.
use Rattle.sip_stream.specs.declared.fault.StreamFault.{StreamFault}
use Rattle.sip_stream.specs.declared.fault.StreamFault.TheVariants as stream_faults
use Rattle.sip_ports.specs.declared.port.PortStop.{PortStop}
use Rattle.sip_ports.specs.declared.port.PortStop.TheVariants as port_stops
use Rattle.sip_verifier.specs.declared.session.SessionFault.{SessionFault}
use Rattle.sip_verifier.specs.declared.session.SessionFault.TheVariants as faults
use Rattle.sip_verifier.specs.declared.session.SessionStart.{SessionStart}
use Rattle.sip_verifier.specs.declared.session.SessionStart.TheVariants as starts
use Rattle.sip_verifier.specs.declared.status.Port.TheVariants as ports
use Rattle.sip_verifier.specs.declared.status.Status.{Status}
use Rattle.sip_verifier.specs.declared.status.Status.TheVariants as statuses

-- where the report stopped
abbrev pub status_of_report : PortStop → Status
status_of_report port_stops.Failed = statuses.WriteFault ports.Report
status_of_report port_stops.OutOfMemory = statuses.OutOfMemory

-- where the record of the talk stopped
abbrev pub status_of_keep : PortStop → Status
status_of_keep port_stops.Failed = statuses.WriteFault ports.Keep
status_of_keep port_stops.OutOfMemory = statuses.OutOfMemory

-- where the link stopped
abbrev pub status_of_link : PortStop → Status
status_of_link port_stops.Failed = statuses.PeerFault
status_of_link port_stops.OutOfMemory = statuses.OutOfMemory

-- where reading the stream stopped
abbrev pub status_of_stream : StreamFault → Status
status_of_stream (stream_faults.Bad at why) = statuses.BadStream at why
status_of_stream stream_faults.ReadFault = statuses.ReadFault ports.First
status_of_stream stream_faults.OutOfMemory = statuses.OutOfMemory

-- where there is no session
abbrev pub status_of_start : SessionStart → Status
status_of_start (starts.TooWide query) = statuses.TooWide query
status_of_start starts.OutOfMemory = statuses.OutOfMemory

-- where a query has no verdict
abbrev pub status_of_fault : SessionFault → Status
status_of_fault faults.PeerFault = statuses.PeerFault
status_of_fault faults.KeepFault = statuses.WriteFault ports.Keep
status_of_fault faults.OutOfMemory = statuses.OutOfMemory
