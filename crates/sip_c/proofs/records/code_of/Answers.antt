use Rattle.std.proofs.Common.{◌+◌, ap, ◌∙◌, rules, w64}
use Rattle.std.proofs.lemmas.Int.{to_z-of_z}
use Rattle.std.specs.Int.{cast_signed}
use Rattle.byteorder.specs.Endian.{big_number}
use Rattle.sip_stream.proofs.RecordsRead.{rest_at}
use Rattle.sip_c.specs.Records.{code_of}
use Rattle.sip_c.proofs.Recorded.{same_codes}
use Rattle.sip_c.proofs.records.code_of.Goals as goal

pub returns : goal.returns
returns c =
    let bytes = c.args.bytes.now in
    let item = c.read_uint.ensures ∙ ap (big_number c.args.width) (rest_at 1 bytes) in
    let bits = c.read_u64.ensures ∙ ap (big_number 8) (rest_at (1 + c.args.width) bytes) in
    same_codes _ _ _ (code_of c.args.width bytes) item (to_z-of_z w64 c.cast_signed.result (search rules) ∙ c.cast_signed.ensures ∙ ap (cast_signed w64) bits) (search rules)
