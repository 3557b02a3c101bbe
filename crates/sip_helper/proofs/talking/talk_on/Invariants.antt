-- The talk is under way, and each turn leaves fewer.
use Rattle.std.specs.Prelude.{IsTrue}
use Rattle.sip_ports.specs.Ports.{Lasts}
use Rattle.sip_helper.specs.UnderWay.{UnderWay}
use Rattle.sip_helper.proofs.talking.talk_on.Given as goal

abbrev pub invariant-loop-status : goal.invariant-loop-status
invariant-loop-status g l = record {
  under_way : UnderWay g.H.Helps.rules g.H.Helps.turns_left l.initial.helper l.initial.offset (g.L.Sink.talk l.initial.link) (g.L.Sink.talk l.link) l.helper l.offset;
  live : IsTrue (g.H.Helps.is_live l.helper);
  lasts : Lasts g.L.Sink.faults g.L.Sink.wants g.L.Sink.is_sure l.initial.link l.link;
}

abbrev pub decreases-loop-status : goal.decreases-loop-status
decreases-loop-status g l = g.H.Helps.turns_left l.helper
