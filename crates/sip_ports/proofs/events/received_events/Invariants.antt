use Rattle.std.proofs.Common.{◌≡◌, take}
use Rattle.sip_ports.specs.Ports.{ins}
use Rattle.sip_ports.proofs.events.received_events.Given as goal

abbrev pub invariant-loop-byte : goal.invariant-loop-byte
invariant-loop-byte l = l.events.items ≡ ins (take l.byte-index l.fn.bytes)
