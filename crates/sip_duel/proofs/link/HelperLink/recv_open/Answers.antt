use Rattle.sip_field.specs.declared.memory.OutOfMemory.{OutOfMemory}
use Rattle.sip_duel.proofs.KeepsLemmas.{goes_keeps}
use Rattle.sip_duel.proofs.link.HelperLink.recv_open.Goals as goal

pub returns-in-Ok-Goes-clause-keeps : goal.returns-in-Ok-Goes-clause-keeps
returns-in-Ok-Goes-clause-keeps g c = λ p. c.give-in-Ok-Goes.ensures.keeps (goes_keeps OutOfMemory _ c.fill.new.self.kept c.in-Ok-Goes.field-0 c.in-Ok-Goes.field-0-is (c.in-Ok-Goes.ensures.keeps p))
