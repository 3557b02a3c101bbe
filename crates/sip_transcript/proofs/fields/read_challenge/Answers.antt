-- Too few bytes, or those of a greater number, are no element.
use Rattle.std.proofs.Common.{◌≡◌, ◌++◌, false, length, take, ap, sym, subst, ◌∙◌, arith, rules}
use Rattle.std.specs.Prelude.{IsTrue}
use Rattle.std.specs.Io.KnownBytes.{Consumes}
use Rattle.std.proofs.lemmas.Bool.Decides.{nat_tests}
use Rattle.std.proofs.lemmas.List.{length-take}
use Rattle.sip_wire.specs.Table.{is_element}
use Rattle.sip_stream.proofs.RecordsRead.{came_front}
use Rattle.sip_transcript.specs.Fields.{element_field}
use Rattle.sip_transcript.proofs.Bytes.{came_all, came_whole, element-bytes, element-short, element-other}
use Rattle.sip_transcript.proofs.fields.read_challenge.Goals as goal

pub returns-then-came-lt8-clause-reads : goal.returns-then-came-lt8-clause-reads
returns-then-came-lt8-clause-reads g c =
    let got = take c.in_ok-came.came c.read_exact_into.new.buf in
    let len : length c.read_exact_into.new.buf ≡ 8 = search rules in
    let long = length-take c.in_ok-came.came c.read_exact_into.new.buf in (
      (got, omega arith, c.in_ok-came.ensures.bytes.1),
      λ bytes told.
          let all = came_all _ _ bytes got told c.in_ok-came.ensures.bytes.1 (c.in_ok-came.ensures.bytes.2 (omega arith)) in
          element-short bytes (omega (arith, ap length all, long)),
    )

pub returns-then-number-ge-MODULUS-clause-reads : goal.returns-then-number-ge-MODULUS-clause-reads
returns-then-number-ge-MODULUS-clause-reads g c =
    let buf = c.read_exact_into.new.buf in
    let len : length buf ≡ 8 = search rules in
    let whole = came_whole _ _ buf c.in_ok-came.came c.in_ok-came.ensures.bytes.1 (omega arith) in
    let no : is_element c.number_of_8-number.result ≡ false = grind (arith, nat_tests) in (
      (buf, omega arith, whole),
      λ bytes told.
          let front = came_front _ _ bytes buf told whole in
          ap element_field (front.2 ∙ ap (λ l. l ++ front.0) (sym c.number_of_8-number.ensures)) ∙ element-other c.number_of_8-number.result front.0 (search rules) no,
    )

pub returns-clause-reads : goal.returns-clause-reads
returns-clause-reads g c =
    let buf = c.read_exact_into.new.buf in
    let len : length buf ≡ 8 = search rules in
    let small : IsTrue (is_element c.number_of_8-number.result) = grind (arith, nat_tests) in
    let same = sym c.number_of_8-number.ensures ∙ element-bytes c.number_of_8-number.result in
    (small, subst (λ l. Consumes (g.S.Source.left c.args.source.now) (g.S.Source.left c.read_exact_into.new.source) l) same (came_whole _ _ buf c.in_ok-came.came c.in_ok-came.ensures.bytes.1 (omega arith)))
