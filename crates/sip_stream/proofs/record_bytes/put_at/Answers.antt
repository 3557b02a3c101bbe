-- The three parts stand behind what is in front of the place.
use Rattle.std.proofs.Common.{◌≡◌, ◌+◌, ◌-◌, ◌++◌, ◌∷◌, [], ap, arith, length, rules, sym, take, drop, ◌∙◌, w64}
use Rattle.std.specs.Int.{cast_unsigned}
use Rattle.std.proofs.lemmas.Int.{of_z-to_z}
use Rattle.byteorder.proofs.Bytes.{between-bytes_high_first}
use Rattle.byteorder.specs.Endian.{big_bytes}
use Rattle.byteorder.specs.Numbers.{length-bytes_high_first}
use Rattle.sip_stream.specs.Layouts.{record_size}
use Rattle.sip_stream.proofs.SpelledRecords.{record_built}
use Rattle.sip_stream.proofs.record_bytes.put_at.Goals as goal

pub put_part-requires-2 : goal.put_part-requires-2
put_part-requires-2 g c =
    let width = g.row.WIDTH in
    let same = ap (λ l. length (take (8 - (8 - width)) (drop (8 - width) l))) c.to_be_bytes.ensures in
    let len = ap length (between-bytes_high_first 8 width c.args.update.now.item c.requires.width) ∙ length-bytes_high_first width c.args.update.now.item in
    omega (arith, same, len, c.requires.room, c.put_part.ensures.len)

pub put_part-requires-3 : goal.put_part-requires-3
put_part-requires-3 g c =
    let u = c.args.update.now in
    let bits : c.to_be_bytes-2.result ≡ big_bytes 8 (cast_unsigned w64 u.delta) = c.to_be_bytes-2.ensures ∙ ap (big_bytes 8) (of_z-to_z w64 (cast_unsigned w64 u.delta) (search rules)) in
    let len : length c.to_be_bytes-2.result ≡ 8 = ap length bits ∙ length-bytes_high_first 8 (cast_unsigned w64 u.delta) in
    omega (arith, len, c.requires.room, c.put_part.ensures.len, c.put_part-2.ensures.len)

pub returns-clause-put : goal.returns-clause-put
returns-clause-put g c =
    let width = g.row.WIDTH in
    let u = c.args.update.now in
    let at = c.args.at in
    let start = take at c.args.block.now in
    let number = take (at + 1) c.put_part.new.block in
    let item = take (at + 1 + width) c.put_part-2.new.block in
    let back = c.to_be_bytes-2.result in
    let all = take (at + record_size width) c.put_part-3.new.block in
    let same = ap (λ l. length (take (8 - (8 - width)) (drop (8 - width) l))) c.to_be_bytes.ensures in
    let len = same ∙ ap length (between-bytes_high_first 8 width u.item c.requires.width) ∙ length-bytes_high_first width u.item in
    let bits : back ≡ big_bytes 8 (cast_unsigned w64 u.delta) = c.to_be_bytes-2.ensures ∙ ap (big_bytes 8) (of_z-to_z w64 (cast_unsigned w64 u.delta) (search rules)) in
    let back_len : length back ≡ 8 = ap length bits ∙ length-bytes_high_first 8 (cast_unsigned w64 u.delta) in
    let end : at + record_size width ≡ at + 1 + width + length back = omega (arith, back_len) in
    record_built width u start number item back all c.requires.width
    (c.put_part.ensures.put ∙ ap (λ n. start ++ n ∷ []) c.number_of.ensures.number)
    (ap (λ n. take (at + 1 + n) c.put_part-2.new.block) (sym len) ∙ c.put_part-2.ensures.put ∙ ap (λ l. number ++ take (8 - (8 - width)) (drop (8 - width) l)) c.to_be_bytes.ensures)
    bits
    (ap (λ n. take n c.put_part-3.new.block) end ∙ c.put_part-3.ensures.put)
