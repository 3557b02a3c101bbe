-- The head was passed, and so many messages.
use Rattle.std.proofs.Common.{◌≡◌, ◌-◌, ◌^◌, ℕ, List, Some, IsSome}
use Rattle.sip_ports.specs.Ports.{Lasts}
use Rattle.sip_transcript.specs.Underway.{IsUnderway}
use Rattle.sip_transcript.proofs.showing.write_all.Given as goal

abbrev pub invariant-loop-after : goal.invariant-loop-after
invariant-loop-after g l = record {
  so : (bytes : List ℕ) → g.B.Source.left l.fn.second ≡ Some bytes
      → IsUnderway l.to bytes (g.B.Source.left l.second) (g.K.Sink.talk l.fn.report) (g.K.Sink.talk l.report) l.head.version l.place;
  told : IsSome (g.B.Source.left l.fn.second) → IsSome (g.B.Source.left l.second);
  second : Lasts g.B.Source.faults g.B.Source.wants g.B.Source.is_sure l.fn.second l.second;
  report : Lasts g.K.Sink.faults g.K.Sink.wants g.K.Sink.is_sure l.fn.report l.report;
}

abbrev pub decreases-loop-after : goal.decreases-loop-after
decreases-loop-after g l = 2 ^ 64 - l.place
