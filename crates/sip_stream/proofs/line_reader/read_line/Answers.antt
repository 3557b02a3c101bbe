-- A line that the input ends in, and a whole line.
use Rattle.std.proofs.Common.{rules}
use Rattle.sip_stream.proofs.LinesRead.{reads_short, reads_line}
use Rattle.sip_stream.proofs.line_reader.read_line.Goals as goal

pub returns-in-Input-2-clause-reads : goal.returns-in-Input-2-clause-reads
returns-in-Input-2-clause-reads g c = λ bytes told.
    let took = rw c.in-Input.is at (c.in_ok-take_line.ensures.takes bytes told) in
    reads_short bytes c.take_line.new.line.items _ took.0 took.1 (search rules) c.in_ok-take_line.ensures.fits

pub returns-in-Feed-clause-reads : goal.returns-in-Feed-clause-reads
returns-in-Feed-clause-reads g c = λ bytes told.
    let took = rw c.in-Feed.is at (c.in_ok-take_line.ensures.takes bytes told) in
    reads_line bytes c.take_line.new.line.items took.0 _ c.update_of.result took.1 took.2 took.3 (search rules)
