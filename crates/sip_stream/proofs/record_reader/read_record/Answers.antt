-- A whole record came, or fewer bytes at the end.
use Rattle.std.proofs.Common.{◌≡◌, length, arith, rules}
use Rattle.sip_stream.specs.Layouts.{record_size}
use Rattle.sip_stream.proofs.RecordsRead.{reads_part, reads_whole}
use Rattle.sip_stream.proofs.record_reader.read_record.Goals as goal

pub returns-then-came-bytes-clause-reads : goal.returns-then-came-bytes-clause-reads
returns-then-came-bytes-clause-reads g c = λ bytes told.
    let size : length c.read_exact_into.new.buf ≡ record_size g.row.WIDTH = search rules in
    reads_part g.row.WIDTH _ _ bytes c.read_exact_into.new.buf c.in_ok-came.came told c.in_ok-came.ensures.bytes.1 (c.in_ok-came.ensures.bytes.2 c.if-came-bytes.true) size (omega arith) (omega arith)

pub returns-clause-reads : goal.returns-clause-reads
returns-clause-reads g c = λ bytes told.
    let size : length c.read_exact_into.new.buf ≡ record_size g.row.WIDTH = search rules in
    reads_whole g.row.WIDTH _ _ bytes c.read_exact_into.new.buf c.in_ok-came.came c.said_by.result told c.in_ok-came.ensures.bytes.1 size (omega arith) c.said_by.ensures
