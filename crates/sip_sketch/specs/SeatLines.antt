-- The lines by which a sketch is shown. None of them has a challenge or a number of a seat.
use Rattle.std.specs.Prelude.{ℕ, ◌+◌, Bool, ◌||◌, List, [], ◌∷◌, ◌++◌, codes, decimal}
use Rattle.std.specs.Prelude.{if◌then◌else◌}
use Rattle.std.specs.Int.{w64, to_be_bytes}
use Rattle.hex.specs.Hex.{encode_lower}
use Rattle.sip_vector.specs.declared.tally.Negatives.{Negatives}
use Rattle.sip_vector.specs.declared.tally.Tally.{Tally}
use Rattle.sip_vector.specs.declared.update.Side.TheVariants.{First, Second}
use Rattle.sip_sketch.specs.Sketches.{SeatValues, SketchValues}
use Rattle.sip_sketch.specs.declared.kind.SeatKind.{SeatKind}
use Rattle.sip_sketch.specs.declared.kind.SeatKind.TheVariants.{Above, Entries, Heavy, Products, Sums}
use Rattle.sip_sketch.specs.declared.parts.Parts.{Parts}

-- the word by which a seat of this kind is asked for, without a number
abbrev pub kind_word : SeatKind → List ℕ
kind_word Entries = codes "entries"
kind_word (Sums First) = codes "sums:0"
kind_word (Sums Second) = codes "sums:1"
kind_word Products = codes "products"
kind_word (Heavy First) = codes "heavy:0"
kind_word (Heavy Second) = codes "heavy:1"
kind_word (Above First) = codes "above:0"
kind_word (Above Second) = codes "above:1"

abbrev pub depth_line : ℕ → List ℕ
depth_line depth = codes "depth " ++ decimal depth ++ 10 ∷ []

abbrev pub parts_line : Parts → List ℕ
parts_line p = codes "parts " ++ decimal p.first ++ codes " to " ++ decimal p.last ++ codes " of "
    ++ decimal p.count ++ 10 ∷ []

-- the fingerprint has 16 hexadecimal digits
abbrev pub records_line : Tally → List ℕ
records_line t = codes "records " ++ decimal t.count ++ codes " weights " ++ decimal t.first
    ++ codes " " ++ decimal t.second ++ codes " fingerprint "
    ++ encode_lower (to_be_bytes w64 t.fingerprint) ++ 10 ∷ []

-- the sides of which a record had a delta below 0
abbrev pub sides_text : Negatives → List ℕ
sides_text n = if n.first || n.second
    then (if n.first then codes " 0" else []) ++ (if n.second then codes " 1" else [])
    else codes " none"

abbrev pub negatives_line : Negatives → List ℕ
negatives_line n = codes "negatives" ++ sides_text n ++ 10 ∷ []

abbrev pub use_text : Bool → List ℕ
use_text is_used = if is_used then codes " used" else codes " unused"

-- seats are numbered from 1
abbrev pub seat_line : ℕ → SeatValues → List ℕ
seat_line number s = codes "seat " ++ decimal number ++ codes " " ++ kind_word s.kind
    ++ use_text s.is_used ++ 10 ∷ []

-- the lines of seats that stand behind so many others
abbrev pub seat_lines : ℕ → List SeatValues → List ℕ
seat_lines before [] = []
seat_lines before (s ∷ seats) = seat_line (before + 1) s ++ seat_lines (before + 1) seats

abbrev pub head_lines : SketchValues → List ℕ
head_lines s = depth_line s.depth ++ parts_line s.parts ++ records_line s.tally
    ++ negatives_line s.tally.negatives

abbrev pub lines_of : SketchValues → List ℕ
lines_of s = head_lines s ++ seat_lines 0 s.seats
