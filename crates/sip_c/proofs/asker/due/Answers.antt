use Rattle.sip_ask_steps.specs.Steps.{due_of}
use Rattle.sip_c.specs.Rooms.{bytes_in}
use Rattle.sip_c.proofs.Handed.{handed}
use Rattle.sip_c.proofs.asker.due.Goals as goal

pub returns-in-Ok-clause-due : goal.returns-in-Ok-clause-due
returns-in-Ok-clause-due c =
    (handed (bytes_in c.new-out.result) (bytes_in c.due.new.out) (due_of c.args.machine.now) c.args.to.now c.hand_out.new.to c.hand_out.new.count c.new-out.ensures c.in-Ok.ensures.talk c.hand_out.ensures, c.in-Ok.ensures.done, c.in-Ok.ensures.once)
