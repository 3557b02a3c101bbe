use Rattle.std.proofs.Common.{◌∙◌}
use Rattle.sip_ports.proofs.DeskLemmas.{holds_now-Sends}
use Rattle.sip_ports.proofs.memory_desk.MemoryDeskSink.write.Goals as goal

pub invariant_of-self : goal.invariant_of-self
invariant_of-self c = record { holds = holds_now-Sends _ _ _ _ _ c.write.ensures.talk ∙ c.args.self.now.holds }
