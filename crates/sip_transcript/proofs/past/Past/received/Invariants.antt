-- A front of the bytes was told.
use Rattle.std.proofs.Common.{◌≡◌, ◌++◌, take}
use Rattle.sip_ports.specs.Ports.{ins}
use Rattle.sip_transcript.specs.Pasts.{events}
use Rattle.sip_transcript.proofs.past.Past.received.Given as goal

abbrev pub invariant-loop-byte : goal.invariant-loop-byte
invariant-loop-byte l = events l.self ≡ events l.initial.self ++ ins (take l.byte-index l.byte-items)
