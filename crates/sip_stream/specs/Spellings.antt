-- The one spelling of an update: as a record of bytes, and as a line of text.
use Rattle.std.specs.Prelude.{ℕ, List, [], ◌∷◌, ◌++◌, codes, decimal}
use Rattle.std.specs.Fmt.{signed_decimal}
use Rattle.std.specs.Int.{w64, cast_unsigned}
use Rattle.std.specs.List.{flat_map}
use Rattle.byteorder.specs.Endian.{big_bytes}
use Rattle.sip_vector.specs.declared.update.Side.{Side}
use Rattle.sip_vector.specs.declared.update.Side.TheVariants.{First, Second}
use Rattle.sip_vector.specs.declared.update.Update.{Update}
use Rattle.sip_stream.specs.declared.form.Form.{Form}
use Rattle.sip_stream.specs.Layouts.{Layout, of_bytes, of_line, layout_of}

-- the number of a side
abbrev pub side_number : Side → ℕ
side_number First = 0
side_number Second = 1

-- the side in one byte, the item in so many and the delta in eight, big endian, the delta in two's
-- complement
unfoldable pub record_bytes : ℕ → Update → List ℕ
record_bytes width u =
    side_number u.side ∷ big_bytes width u.item ++ big_bytes 8 (cast_unsigned w64 u.delta)

-- the side, a space, the item, a space, the delta, and a line feed
unfoldable pub line_bytes : Update → List ℕ
line_bytes u =
    decimal (side_number u.side) ++ codes " " ++ decimal u.item ++ codes " "
    ++ signed_decimal u.delta ++ 10 ∷ []

-- the spelling in a layout
abbrev pub spelled : Layout → Update → List ℕ
spelled (of_bytes width) u = record_bytes width u
spelled of_line u = line_bytes u

-- updates in the spelling of a form, one after another
abbrev pub all_spelled : Form → List Update → List ℕ
all_spelled form us = flat_map (spelled (layout_of form)) us
