-- A whole line in front.
use Rattle.std.proofs.Common.{arith, refl, rules, take}
use Rattle.std.proofs.lemmas.List.{length-take}
use Rattle.sip_stream.proofs.LinesRead.{held_line}
use Rattle.sip_stream.proofs.line_reader.line_in_front.Goals as goal

pub returns-clause-line : goal.returns-clause-line
returns-clause-line c =
    let bytes = c.args.bytes.now in
    let line = c.in-Some-split_at.line.now in
    record {
      line = line;
      order = held_line bytes (take c.min.result bytes) line c.in-Some-split_at.field-0-1.now c.min.result refl c.in-Some-split_at.ensures.whole;
      clean = c.in-Some-split_at.ensures.clean;
      short = search rules;
      says = c.update_of.ensures;
    }

pub returns-clause-within : goal.returns-clause-within
returns-clause-within c =
    let bytes = c.args.bytes.now in
    omega (arith, c.in-Some-split_at.ensures.lens, length-take c.min.result bytes)
