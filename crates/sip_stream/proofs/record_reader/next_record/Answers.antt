-- A whole record that the source holds.
use Rattle.std.proofs.Common.{◌≡◌, length, take, sym, subst, ◌∙◌, arith, length-take-le}
use Rattle.std.specs.Io.KnownBytes.{Consumes}
use Rattle.sip_stream.specs.Layouts.{record_size}
use Rattle.sip_stream.proofs.RecordsRead.{reads_front}
use Rattle.sip_stream.proofs.record_reader.next_record.Goals as goal

pub returns-clause-reads : goal.returns-clause-reads
returns-clause-reads g c = λ bytes told.
    let held = c.held-held.result.now in
    let size = c.size_of-size.result in
    let len : length (take size held) ≡ record_size g.row.WIDTH = length-take-le size held (omega (arith, c.if-held-size.false)) ∙ c.size_of-size.ensures.size in
    let took = subst (λ l. Consumes (g.S.Source.left c.args.source.now) (g.S.Source.left c.skip.new.self) (take size l)) (sym c.held-held.ensures.bytes) c.skip.ensures.bytes in
    reads_front g.row.WIDTH _ _ bytes (take size held) c.said_by-said.result told took len c.said_by-said.ensures
