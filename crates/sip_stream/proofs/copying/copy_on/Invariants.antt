-- The records so far were legal: a part of their spellings was sent, and the rest is gathered.
use Rattle.std.proofs.Common.{◌≡◌, ℕ, List, Some, false}
use Rattle.std.specs.Prelude.{IsSome}
use Rattle.sip_ports.specs.Ports.{Lasts}
use Rattle.sip_stream.specs.Reading.{room}
use Rattle.sip_stream.proofs.Copies.{IsUnderway}
use Rattle.sip_stream.proofs.copying.copy_on.Given as goal

abbrev pub invariant-loop-update : goal.invariant-loop-update
invariant-loop-update g l = record {
  underway : (bytes : List ℕ) → g.A.Source.left l.fn.source ≡ Some bytes → IsUnderway l.fn.depth l.fn.from l.fn.to bytes (g.A.Source.left l.source) (g.K.Sink.talk l.fn.sink) (g.K.Sink.talk l.sink) l.reader l.gathered.items;
  same_to : l.to ≡ l.fn.to;
  depth : l.reader.depth ≡ l.fn.depth;
  form : l.reader.form ≡ l.fn.from;
  ready : l.reader.is_spent ≡ false;
  told : IsSome (g.A.Source.left l.fn.source) → IsSome (g.A.Source.left l.source);
  source : Lasts g.A.Source.faults g.A.Source.wants g.A.Source.is_sure l.fn.source l.source;
  sink : Lasts g.K.Sink.faults g.K.Sink.wants g.K.Sink.is_sure l.fn.sink l.sink;
}

-- each legal record adds to the weights, which stay below their limits
abbrev pub decreases-loop-update : goal.decreases-loop-update
decreases-loop-update g l = room l.reader
