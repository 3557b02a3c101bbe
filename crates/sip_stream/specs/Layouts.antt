-- The two layouts of a record, and the forms of a stream that have them.
use Rattle.std.specs.Prelude.{ℕ, ◌+◌, nat_le, if◌then◌else◌}
use Rattle.sip_vector.specs.Limits.{most_depth, most_narrow_depth}
use Rattle.sip_stream.specs.declared.form.Form.{Form}
use Rattle.sip_stream.specs.declared.form.Form.TheVariants.{Binary, Text, Wide}

-- A record is bytes, of which its item has so many; or it is a line.
pub data Layout : Type 0 where
  of_bytes : ℕ → Layout
  of_line : Layout

abbrev pub layout_of : Form → Layout
layout_of Binary = of_bytes 4
layout_of Text = of_line
layout_of Wide = of_bytes 8

-- how many bytes a record has: one for the side, those of the item, and eight for the delta
abbrev pub record_size : ℕ → ℕ
record_size width = 1 + width + 8

-- the greatest depth whose items a form has room for
abbrev pub deepest_in : Form → ℕ
deepest_in Binary = most_narrow_depth
deepest_in Text = most_depth
deepest_in Wide = most_depth

-- the form of a made stream: binary, where it has room for the items
abbrev pub made_form : ℕ → Form
made_form depth = if nat_le depth most_narrow_depth then Binary else Wide
