use Rattle.std.proofs.Common.{◌≡◌, take}
use Rattle.sip_ports.specs.Ports.{outs}
use Rattle.sip_ports.proofs.events.sent_events.Given as goal

abbrev pub invariant-loop-byte : goal.invariant-loop-byte
invariant-loop-byte l = l.events.items ≡ outs (take l.byte-index l.fn.bytes)
