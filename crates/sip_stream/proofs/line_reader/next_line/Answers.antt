-- A whole line that the source holds.
use Rattle.std.proofs.Common.{take, sym, subst}
use Rattle.std.specs.Io.KnownBytes.{Consumes}
use Rattle.sip_stream.proofs.LinesRead.{reads_held}
use Rattle.sip_stream.proofs.line_reader.next_line.Goals as goal

pub returns-clause-reads : goal.returns-clause-reads
returns-clause-reads g c = λ bytes told.
    let before = g.S.Source.left c.args.source.now in
    let after = g.S.Source.left c.skip.new.self in
    let front = c.in-Some.ensures.line in
    let took = subst (λ l. Consumes before after (take c.in-Some.size l)) (sym c.held-held.ensures.bytes) c.skip.ensures.bytes in
    reads_held before after bytes front.line c.in-Some.said told (subst (Consumes before after) front.order took) front.clean front.short front.says
