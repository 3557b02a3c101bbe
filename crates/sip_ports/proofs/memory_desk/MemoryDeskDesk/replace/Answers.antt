use Rattle.std.proofs.Common.{arith}
use Rattle.sip_ports.proofs.DeskLemmas.{Replaces-stopped}
use Rattle.sip_ports.proofs.memory_desk.MemoryDeskDesk.replace.Goals as goal

pub returns-then-next_fails-clause-talk : goal.returns-then-next_fails-clause-talk
returns-then-next_fails-clause-talk c =
    Replaces-stopped _ _ _ c.args.bytes.now c.min.result c.step.result c.next_fails.ensures.talk (omega (arith, c.min.ensures)) c.step.ensures.talk
