-- Rows of one layout, one after the other: their fields, their numbers and their bytes.
use Rattle.std.specs.Prelude.{ℕ, Bool, List, length}
use Rattle.std.specs.List.{flat_map}
use Rattle.sip_wire.specs.Table.{Field, repeat}
use Rattle.sip_wire.specs.Spelling.{spelled, has_room, all_hold}

-- the fields of all the rows
abbrev pub over : {T : Type 0} → List Field → List T → List Field
over layout rows = repeat (length rows) layout

-- each number has room in its field
abbrev pub rooms : {T : Type 0} → (T → List ℕ) → List Field → List T → Bool
rooms said layout rows = has_room (over layout rows) (flat_map said rows)

-- each field may hold its number
abbrev pub holds : {T : Type 0} → (T → List ℕ) → List Field → List T → Bool
holds said layout rows = all_hold (over layout rows) (flat_map said rows)

-- the bytes of the rows
abbrev pub bytes : {T : Type 0} → (T → List ℕ) → List Field → List T → List ℕ
bytes said layout rows = spelled (over layout rows) (flat_map said rows)
