-- These came to the sketch, which was stored at each multiple.
use Rattle.std.proofs.Common.{◌≡◌, ◌+◌, ◌-◌, ◌*◌, ◌<◌}
use Rattle.std.specs.Prelude.{IfSome, IsSome}
use Rattle.sip_ports.specs.Ports.{Lasts}
use Rattle.sip_vector.specs.Streams.{most_weight}
use Rattle.sip_sketch.proofs.Rounds.{IsRound}
use Rattle.sip_sketch.proofs.following.follow.Given as goal

abbrev pub invariant-loop-sketch : goal.invariant-loop-sketch
invariant-loop-sketch g l = record {
  form : l.form ≡ l.fn.form;
  some : IfSome l.pace.until (λ n. 0 < n);
  came : IsRound l.fn.form l.fn.every l.fn.sketch (g.A.Source.left l.fn.first) (g.D.Sink.talk l.fn.desk) l.pace l.sketch (g.A.Source.left l.first) (g.D.Sink.talk l.desk);
  told : IsSome (g.A.Source.left l.fn.first) → IsSome (g.A.Source.left l.first);
  start : g.D.Desk.start l.desk ≡ g.D.Desk.start l.fn.desk;
  first : Lasts g.A.Source.faults g.A.Source.wants g.A.Source.is_sure l.fn.first l.first;
  desk : Lasts g.D.Sink.faults g.D.Sink.wants g.D.Sink.is_sure l.fn.desk l.desk;
}

abbrev pub decreases-loop-sketch : goal.decreases-loop-sketch
decreases-loop-sketch g l = 2 * most_weight - (l.sketch.tally.first + l.sketch.tally.second)
