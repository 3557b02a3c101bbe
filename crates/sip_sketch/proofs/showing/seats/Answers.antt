use Rattle.sip_sketch.specs.Risen.{counts}
use Rattle.sip_sketch.proofs.showing.seats.Goals as goal

pub returns-in-Err-clause-cause : goal.returns-in-Err-clause-cause
returns-in-Err-clause-cause g c =
    let reports = g.K.Sink.faults c.args.report.now in
    c.in-Err.ensures.cause (counts 0 0 0 0 reports) (counts 0 0 0 0 reports)
