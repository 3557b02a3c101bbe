use Rattle.std.proofs.Common.{◌≡◌, ◌∷◌, map, take}
use Rattle.sip_ports.specs.declared.port.TalkEvent.TheVariants.{Fresh, Stored}
use Rattle.sip_ports.proofs.events.replacing_events.Given as goal

abbrev pub invariant-loop-byte : goal.invariant-loop-byte
invariant-loop-byte l = l.events.items ≡ Fresh ∷ map Stored (take l.byte-index l.fn.bytes)
