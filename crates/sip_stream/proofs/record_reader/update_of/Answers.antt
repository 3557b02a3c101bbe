use Rattle.std.proofs.Common.{◌+◌, ap, ◌∙◌, rules, w64}
use Rattle.std.proofs.lemmas.Int.{to_z-of_z}
use Rattle.std.specs.Int.{cast_signed}
use Rattle.byteorder.specs.Endian.{big_number}
use Rattle.sip_stream.specs.Records.{record_at}
use Rattle.sip_stream.proofs.RecordsRead.{rest_at}
use Rattle.sip_stream.proofs.SpelledRecords.{same_parts}
use Rattle.sip_stream.proofs.record_reader.update_of.Goals as goal

pub returns : goal.returns
returns g c =
    let bytes = c.args.bytes.now in
    let item = c.read_uint.ensures ∙ ap (big_number g.row.WIDTH) (rest_at 1 bytes) in
    let bits = c.read_u64.ensures ∙ ap (big_number 8) (rest_at (1 + g.row.WIDTH) bytes) in
    same_parts _ _ _ (record_at g.row.WIDTH bytes) (search rules) item (to_z-of_z w64 c.cast_signed.result (search rules) ∙ c.cast_signed.ensures ∙ ap (cast_signed w64) bits)
