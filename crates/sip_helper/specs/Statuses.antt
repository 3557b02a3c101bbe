-- Which status stands for what stopped a talk.
use Rattle.std.specs.Prelude.{ℕ}
use Rattle.sip_ports.specs.declared.port.PortStop.{PortStop}
use Rattle.sip_ports.specs.declared.port.PortStop.TheVariants as stops
use Rattle.sip_wire.specs.declared.message.WireFault.{WireFault}
use Rattle.sip_wire.specs.declared.message.WireFault.TheVariants as faults
use Rattle.sip_helper.specs.declared.status.HelpStatus.{HelpStatus}
use Rattle.sip_helper.specs.declared.status.HelpStatus.TheVariants.{BadFrame, PeerClosed, PeerFault}
use Rattle.sip_helper.specs.declared.status.HelpStatus.TheVariants.{OutOfMemory}

abbrev pub status_of_stop : PortStop → HelpStatus
status_of_stop stops.Failed = PeerFault
status_of_stop stops.OutOfMemory = OutOfMemory

abbrev pub status_of_fault : WireFault → ℕ → HelpStatus
status_of_fault faults.Closed offset = PeerClosed
status_of_fault faults.PeerFault offset = PeerFault
status_of_fault faults.OutOfMemory offset = OutOfMemory
status_of_fault faults.BadKind offset = BadFrame offset
status_of_fault faults.BadLength offset = BadFrame offset
status_of_fault faults.BadCount offset = BadFrame offset
status_of_fault faults.BadNumber offset = BadFrame offset
