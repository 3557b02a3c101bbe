-- Which faults come from the link, and which from the bytes.
use Rattle.std.specs.Prelude.{List, [], ◌∷◌, Result, Err}
use Rattle.sip_ports.specs.declared.port.TalkEvent.{TalkEvent}
use Rattle.sip_ports.specs.declared.port.TalkEvent.TheVariants.{Ended}
use Rattle.sip_ports.specs.declared.port.PortStop.{PortStop}
use Rattle.sip_ports.specs.declared.port.PortStop.TheVariants as stops
use Rattle.sip_wire.specs.declared.message.WireFault.{WireFault}
use Rattle.sip_wire.specs.declared.message.WireFault.TheVariants as faults

-- the fault that stands for a stop of the link
abbrev pub fault_of_stop : PortStop → WireFault
fault_of_stop stops.Failed = faults.PeerFault
fault_of_stop stops.OutOfMemory = faults.OutOfMemory

-- the link ended or stopped
abbrev pub IsOfLink : WireFault → Type 0
IsOfLink faults.Closed = Unit {0}
IsOfLink faults.PeerFault = Unit {0}
IsOfLink faults.OutOfMemory = Unit {0}
IsOfLink _ = ⊥

-- a fault of bytes that are there, and not of their end
abbrev pub IsOfBytes : WireFault → Type 0
IsOfBytes faults.BadKind = Unit {0}
IsOfBytes faults.BadLength = Unit {0}
IsOfBytes faults.BadCount = Unit {0}
IsOfBytes faults.BadNumber = Unit {0}
IsOfBytes _ = ⊥

-- what the link told last: that it had ended, exactly at Closed
abbrev pub ended_by : {T : Type 0} → Result T WireFault → List TalkEvent
ended_by (Err faults.Closed) = Ended ∷ []
ended_by _ = []
