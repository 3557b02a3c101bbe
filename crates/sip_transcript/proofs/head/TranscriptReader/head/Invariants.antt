-- As many queries as were read, of those that the opening says.
use Rattle.std.proofs.Common.{◌≤◌, ◌-◌, length}
use Rattle.std.specs.Prelude.{IsTrue}
use Rattle.sip_ports.specs.Ports.{Lasts}
use Rattle.sip_transcript.specs.Fields.{is_count, is_depth}
use Rattle.sip_transcript.proofs.Growing.{IsBegun}
use Rattle.sip_transcript.proofs.head.TranscriptReader.head.Given as goal

abbrev pub invariant-loop-head : goal.invariant-loop-head
invariant-loop-head g l = record {
  begun : IsBegun l.head.version l.head.depth l.count (length l.head.queries.items) (g.S.Source.left l.fn.source) (g.S.Source.left l.source) l.head;
  deep : IsTrue (is_depth l.head.version l.head.depth);
  some : IsTrue (is_count l.count);
  within : length l.head.queries.items ≤ l.count;
  lasts : Lasts g.S.Source.faults g.S.Source.wants g.S.Source.is_sure l.fn.source l.source;
}

abbrev pub decreases-loop-head : goal.decreases-loop-head
decreases-loop-head g l = l.count - length l.head.queries.items
