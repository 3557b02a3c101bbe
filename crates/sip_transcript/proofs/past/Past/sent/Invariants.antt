-- A front of the bytes was told.
use Rattle.std.proofs.Common.{◌≡◌, ◌++◌, take}
use Rattle.sip_ports.specs.Ports.{outs}
use Rattle.sip_transcript.specs.Pasts.{events}
use Rattle.sip_transcript.proofs.past.Past.sent.Given as goal

abbrev pub invariant-loop-byte : goal.invariant-loop-byte
invariant-loop-byte l = events l.self ≡ events l.initial.self ++ outs (take l.byte-index l.bytes)
