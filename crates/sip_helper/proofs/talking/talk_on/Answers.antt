-- Turn after turn.
use Rattle.std.proofs.Common.{ap, length}
use Rattle.sip_ports.proofs.FaultLemmas.{Lasts-trans}
use Rattle.sip_wire.specs.Frames.{frame_bytes}
use Rattle.sip_helper.proofs.Talks.{goes_on}
use Rattle.sip_helper.proofs.talking.talk_on.Goals as goal

pub loop-status-preserved : goal.loop-status-preserved
loop-status-preserved g c = record {
  under_way = goes_on _ _ _ _ _ _ _ _ _ c.loop-status.invariant.under_way c.take_turn.new.helper (frame_bytes c.take_turn.new.frame) (length c.bytes.result.now) (ap length c.bytes.ensures) c.in_default.ensures.fewer c.in_default.ensures.turn;
  live = c.in_default.ensures.live;
  lasts = Lasts-trans g.L.Sink.faults g.L.Sink.wants g.L.Sink.is_sure c.args.link.now c.loop-status.link c.take_turn.new.link c.loop-status.invariant.lasts c.take_turn.ensures.lasts;
}
