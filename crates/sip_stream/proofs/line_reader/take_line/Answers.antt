-- One more byte of the line.
use Rattle.std.proofs.Common.{◌<◌, length, subst, rules}
use Rattle.sip_stream.specs.Pieces.{IsBegun}
use Rattle.sip_stream.proofs.LinesRead.{begun_more}
use Rattle.sip_stream.proofs.line_reader.take_line.Goals as goal

pub loop-byte-preserved : goal.loop-byte-preserved
loop-byte-preserved g c =
    let items = c.loop-byte.line.items in
    let short : length items < 40 = search rules in
    record {
      begun = λ bytes told.
          let so = c.loop-byte.invariant.begun bytes told in
          let read = rw c.in-Some.is at (c.in_ok-byte.ensures.reads so.0 so.1) in
          (read.0, read.1, rw c.push.ensures.items (begun_more bytes items read.0 c.in-Some.byte (subst (IsBegun bytes items) read.2 so.2) c.if-byte-eq10.false short));
      fits = search rules;
      told = search rules;
      lasts = search rules;
    }
