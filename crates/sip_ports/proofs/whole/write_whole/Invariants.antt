-- A front of the buffer was sent, and neither count has fallen.
use Rattle.std.proofs.Common.{◌-◌, ◌≤◌, length, take}
use Rattle.sip_ports.specs.Ports.{GoesOn, outs}
use Rattle.sip_ports.proofs.whole.write_whole.Given as goal

abbrev pub invariant-loop-sent : goal.invariant-loop-sent
invariant-loop-sent g l = record {
  within : l.sent ≤ length l.buf;
  went : GoesOn (g.K.Sink.talk l.initial.sink) (g.K.Sink.talk l.sink) (outs (take l.sent l.buf));
  later : g.K.Sink.faults l.initial.sink ≤ g.K.Sink.faults l.sink;
  wants_later : g.K.Sink.wants l.initial.sink ≤ g.K.Sink.wants l.sink;
  sure : g.K.Sink.is_sure l.initial.sink → g.K.Sink.is_sure l.sink;
}

abbrev pub decreases-loop-sent : goal.decreases-loop-sent
decreases-loop-sent g l = length l.buf - l.sent
