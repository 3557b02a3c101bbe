-- What came is a part of a frame, or all of it.
use Rattle.std.proofs.Common.{◌≤◌, ◌-◌, length, IsSome}
use Rattle.std.specs.Io.KnownBytes.{Consumes}
use Rattle.sip_ports.specs.Ports.{Lasts}
use Rattle.sip_wire.specs.declared.kind.Place.TheVariants.{ToVerifier}
use Rattle.sip_wire.specs.Frames.{frame_bytes}
use Rattle.sip_wire.specs.Spelling.{asked}
use Rattle.sip_wire.specs.Table.{longest_frame}
use Rattle.sip_transcript.proofs.frames.fill.Given as goal

abbrev pub invariant-loop-version : goal.invariant-loop-version
invariant-loop-version g l = record {
  came : Consumes (g.S.Source.left l.fn.source) (g.S.Source.left l.source) (frame_bytes l.frame);
  most : length (frame_bytes l.frame) ≤ asked l.version ToVerifier (frame_bytes l.frame);
  told : IsSome (g.S.Source.left l.fn.source) → IsSome (g.S.Source.left l.source);
  lasts : Lasts g.S.Source.faults g.S.Source.wants g.S.Source.is_sure l.fn.source l.source;
}

abbrev pub decreases-loop-version : goal.decreases-loop-version
decreases-loop-version g l = longest_frame - length (frame_bytes l.frame)
