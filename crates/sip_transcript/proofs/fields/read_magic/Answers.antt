-- Too few bytes, or other ones, are no magic; and those of its number are.
use Rattle.std.proofs.Common.{◌≡◌, length, take, ap, sym, subst, ◌∙◌, arith, rules}
use Rattle.std.specs.Io.KnownBytes.{Consumes}
use Rattle.std.specs.Int.{w32, to_be_bytes}
use Rattle.std.proofs.lemmas.List.{length-take}
use Rattle.sip_wire.specs.Transcript.{magic}
use Rattle.sip_stream.proofs.RecordsRead.{came_front}
use Rattle.sip_transcript.specs.Fields.{text_field}
use Rattle.sip_transcript.proofs.Bytes.{came_all, came_whole, magic-bytes, magic-short, magic-other}
use Rattle.sip_transcript.proofs.fields.read_magic.Goals as goal

pub returns-then-came-lt4-clause-reads : goal.returns-then-came-lt4-clause-reads
returns-then-came-lt4-clause-reads g c =
    let got = take c.in_ok-came.came c.read_exact_into.new.buf in
    let len : length c.read_exact_into.new.buf ≡ 4 = search rules in
    let long = length-take c.in_ok-came.came c.read_exact_into.new.buf in (
      (got, omega arith, c.in_ok-came.ensures.bytes.1),
      λ bytes told.
          let all = came_all _ _ bytes got told c.in_ok-came.ensures.bytes.1 (c.in_ok-came.ensures.bytes.2 (omega arith)) in
          magic-short bytes (omega (arith, ap length all, long)),
    )

pub returns-then-number-ne-MAGIC-clause-reads : goal.returns-then-number-ne-MAGIC-clause-reads
returns-then-number-ne-MAGIC-clause-reads g c =
    let buf = c.read_exact_into.new.buf in
    let len : length buf ≡ 4 = search rules in
    let whole = came_whole _ _ buf c.in_ok-came.came c.in_ok-came.ensures.bytes.1 (omega arith) in (
      (buf, omega arith, whole),
      λ bytes told.
          let front = came_front _ _ bytes buf told whole in
          ap (text_field magic) front.2 ∙ magic-other buf front.0 c.number_of_4-number.result len c.number_of_4-number.ensures (search rules) (λ same. search rules),
    )

pub returns-clause-reads : goal.returns-clause-reads
returns-clause-reads g c =
    let buf = c.read_exact_into.new.buf in
    let len : length buf ≡ 4 = search rules in
    let number : c.number_of_4-number.result ≡ 1397313620 = search rules in
    let same : buf ≡ magic = sym c.number_of_4-number.ensures ∙ ap (to_be_bytes w32) number ∙ magic-bytes in
    (tt, subst (λ l. Consumes (g.S.Source.left c.args.source.now) (g.S.Source.left c.read_exact_into.new.source) l) same (came_whole _ _ buf c.in_ok-came.came c.in_ok-came.ensures.bytes.1 (omega arith)))
