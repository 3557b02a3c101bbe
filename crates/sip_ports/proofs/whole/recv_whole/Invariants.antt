-- What stands in the front of the buffer is what came, and neither count has fallen.
use Rattle.std.proofs.Common.{◌-◌, ◌≤◌, length, take}
use Rattle.sip_ports.specs.Ports.{GoesOn, ins}
use Rattle.sip_ports.proofs.whole.recv_whole.Given as goal

abbrev pub invariant-loop-filled : goal.invariant-loop-filled
invariant-loop-filled g l = record {
  within : l.filled ≤ length l.buf;
  came : GoesOn (g.L.Sink.talk l.initial.link) (g.L.Sink.talk l.link) (ins (take l.filled l.buf));
  later : g.L.Sink.faults l.initial.link ≤ g.L.Sink.faults l.link;
  wants_later : g.L.Sink.wants l.initial.link ≤ g.L.Sink.wants l.link;
  sure : g.L.Sink.is_sure l.initial.link → g.L.Sink.is_sure l.link;
}

abbrev pub decreases-loop-filled : goal.decreases-loop-filled
decreases-loop-filled g l = length l.initial.buf - l.filled
