-- What stands in the front of the buffer is what came, and neither count has fallen.
use Rattle.std.proofs.Common.{◌-◌, ◌≤◌, length, take}
use Rattle.std.specs.Io.KnownBytes.{Consumes}
use Rattle.sip_ports.proofs.whole.read_exact_into.Given as goal

abbrev pub invariant-loop-filled : goal.invariant-loop-filled
invariant-loop-filled g l = record {
  within : l.filled ≤ length l.buf;
  came : Consumes (g.S.Source.left l.initial.source) (g.S.Source.left l.source) (take l.filled l.buf);
  later : g.S.Source.faults l.initial.source ≤ g.S.Source.faults l.source;
  wants_later : g.S.Source.wants l.initial.source ≤ g.S.Source.wants l.source;
  sure : g.S.Source.is_sure l.initial.source → g.S.Source.is_sure l.source;
}

abbrev pub decreases-loop-filled : goal.decreases-loop-filled
decreases-loop-filled g l = length l.initial.buf - l.filled
