-- What came stands behind what was there, and neither count has fallen.
use Rattle.std.proofs.Common.{◌≡◌, ◌-◌, ◌≤◌, ℕ, List, ◌++◌}
use Rattle.sip_ports.specs.Ports.{GoesOn, Lasts, ins}
use Rattle.sip_wire.specs.Frames.{frame_bytes}
use Rattle.sip_wire.proofs.frame.Frame.receive.Given as goal

abbrev pub invariant-loop-self : goal.invariant-loop-self
invariant-loop-self g l = record {
  within : l.self.taken ≤ l.upto;
  came : (more : List ℕ) × (frame_bytes l.self ≡ frame_bytes l.initial.self ++ more) × GoesOn (g.L.Sink.talk l.initial.link) (g.L.Sink.talk l.link) (ins more);
  lasts : Lasts g.L.Sink.faults g.L.Sink.wants g.L.Sink.is_sure l.initial.link l.link;
}

abbrev pub decreases-loop-self : goal.decreases-loop-self
decreases-loop-self g l = l.upto - l.self.taken
