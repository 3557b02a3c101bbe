use Rattle.std.proofs.Common.{refl}
use Rattle.sip_steps.specs.Questioned.{due_of}
use Rattle.sip_c.specs.Rooms.{bytes_in}
use Rattle.sip_c.proofs.Handed.{handed}
use Rattle.sip_c.proofs.talk.Talk.due.Goals as goal

pub returns-in-Ok-clause-due : goal.returns-in-Ok-clause-due
returns-in-Ok-clause-due c =
    (handed (bytes_in c.new-out.result) (bytes_in c.due.new.out) (due_of c.args.self.now.asking) c.args.to.now c.hand_out.new.to c.hand_out.new.count c.new-out.ensures c.in-Ok.ensures.talk c.hand_out.ensures, (refl, c.in-Ok.ensures.asked), c.in-Ok.ensures.once)

pub returns-in-Err-clause-settled : goal.returns-in-Err-clause-settled
returns-in-Err-clause-settled c = rw c.in-Err.ensures.same c.requires.settled
