use Rattle.std.proofs.Common.{◌∙◌}
use Rattle.sip_ports.proofs.DeskLemmas.{holds_now-Hears}
use Rattle.sip_ports.proofs.memory_desk.MemoryDeskLink.recv.Goals as goal

pub invariant_of-self : goal.invariant_of-self
invariant_of-self c = record { holds = holds_now-Hears _ _ _ _ _ c.recv.ensures.talk ∙ c.args.self.now.holds }
