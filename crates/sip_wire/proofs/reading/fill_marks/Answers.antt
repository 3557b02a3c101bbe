use Rattle.sip_wire.proofs.Marks.{marks_fault}
use Rattle.sip_wire.proofs.reading.fill_marks.Goals as goal

pub returns-in-Err : goal.returns-in-Err
returns-in-Err c = marks_fault c.args.version c.args.body.now c.in-Err.fault c.requires c.in-Err.ensures
