-- What was taken so far is a part of the frame.
use Rattle.std.proofs.Common.{◌≡◌, ◌<◌, ◌≤◌, ◌++◌, ◌-◌, length, take}
use Rattle.sip_wire.specs.Frames.{frame_bytes}
use Rattle.sip_wire.specs.Spelling.{asked}
use Rattle.sip_wire.specs.declared.kind.Place.TheVariants as places
use Rattle.sip_ask_steps.proofs.hearing.take_held.Given as goal

abbrev pub invariant-loop-taken : goal.invariant-loop-taken
invariant-loop-taken l = record {
  most : l.taken ≤ length l.bytes;
  short : length (frame_bytes l.frame) < asked l.version places.Held (frame_bytes l.frame);
  bytes : frame_bytes l.frame ≡ frame_bytes l.initial.frame ++ take l.taken l.bytes;
}

abbrev pub decreases-loop-taken : goal.decreases-loop-taken
decreases-loop-taken l = length l.bytes - l.taken
