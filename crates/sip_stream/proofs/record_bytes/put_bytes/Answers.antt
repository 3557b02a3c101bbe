-- The three parts stand behind what was there.
use Rattle.std.proofs.Common.{ap, ◌∙◌, rules, w64}
use Rattle.std.specs.Int.{cast_unsigned}
use Rattle.std.proofs.lemmas.Int.{of_z-to_z}
use Rattle.byteorder.specs.Endian.{big_bytes}
use Rattle.sip_stream.proofs.SpelledRecords.{record_built}
use Rattle.sip_stream.proofs.record_bytes.put_bytes.Goals as goal

pub returns : goal.returns
returns g c =
    record_built g.row.WIDTH c.args.update.now c.args.gathered.now.items c.put.new.gathered.items c.put-2.new.gathered.items c.to_be_bytes-2.result c.put-3.new.gathered.items
    c.requires.width (search rules) (rw (← c.to_be_bytes.ensures) c.put-2.ensures.items) (c.to_be_bytes-2.ensures ∙ ap (big_bytes 8) (of_z-to_z w64 (cast_unsigned w64 c.args.update.now.delta) (search rules))) c.put-3.ensures.items
