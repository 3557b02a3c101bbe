-- The counts of the ports that `watch` has no use for are as they were.
use Rattle.sip_sketch.specs.Risen.{Counts, counts}
use Rattle.sip_keeping.proofs.obeying.obey_sketch.Goals as goal

pub returns-in-Watch-clause-cause : goal.returns-in-Watch-clause-cause
returns-in-Watch-clause-cause g c =
    let others : Counts = counts 0 (g.B.Source.faults c.args.second.now) 0 (g.F.SketchFiles.faults c.args.files.now) (g.K.Sink.faults c.args.report.now) in
    rw c.in-Watch.is (c.watch.ensures.cause others others)
