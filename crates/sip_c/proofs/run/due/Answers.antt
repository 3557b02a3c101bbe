use Rattle.sip_runs.specs.Runs.{due_bytes}
use Rattle.sip_c.specs.Rooms.{bytes_in}
use Rattle.sip_c.proofs.Handed.{handed}
use Rattle.sip_c.proofs.run.due.Goals as goal

pub returns-in-Ok-clause-due : goal.returns-in-Ok-clause-due
returns-in-Ok-clause-due c =
    (handed (bytes_in c.new-out.result) (bytes_in c.due.new.out) (due_bytes c.args.run.now) c.args.to.now c.hand_out.new.to c.hand_out.new.count c.new-out.ensures c.in-Ok.ensures.talk c.hand_out.ensures, c.in-Ok.ensures.followed, c.in-Ok.ensures.once)
