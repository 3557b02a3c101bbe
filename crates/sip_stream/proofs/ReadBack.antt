-- The spelling of an update in front of bytes is read as the update, and then the bytes.
use Rattle.std.proofs.Common.{◌≡◌, ℕ, ◌^◌, ◌<◌, ◌≤◌, false, List, [], ◌∷◌, ◌++◌, length, Option, Some, None, refl, sym, ap, ◌∙◌, append_assoc, length-append, arith, w64}
use Rattle.std.specs.Prelude.{FitsSigned, nat_lt, slice_index}
use Rattle.std.proofs.Math.Nat.{pow-le-pow_right}
use Rattle.std.proofs.lemmas.Bool.Decides.{nat_tests}
use Rattle.sip_vector.specs.declared.update.Side.{Side}
use Rattle.sip_vector.specs.declared.update.Side.TheVariants.{First, Second}
use Rattle.sip_vector.specs.declared.update.Update.{Update}
use Rattle.sip_stream.specs.declared.form.Form.{Form}
use Rattle.sip_stream.specs.declared.form.Form.TheVariants.{Binary, Text, Wide}
use Rattle.sip_stream.specs.declared.why.Why.{Why}
use Rattle.sip_stream.specs.declared.numbers.Numbers.{Numbers}
use Rattle.sip_stream.specs.Layouts.{Layout, of_bytes, of_line, layout_of, record_size, deepest_in}
use Rattle.sip_stream.specs.Lines.{parts_at, numbers_at, lines_from, most_line}
use Rattle.sip_stream.specs.Records.{update_fault, record_at, record_fault, said, said_fault, line_at, line_fault, update_at, fault_at, pieces_of, Records, records_after, records_from}
use Rattle.sip_stream.specs.Spellings.{side_number, record_bytes, line_bytes, spelled}
use Rattle.sip_stream.proofs.Cuts.{cut-cons}
use Rattle.sip_stream.proofs.SpelledRecords.{side_back, same_parts, record_back, length-record}
use Rattle.sip_stream.proofs.SpelledLines.{text, line-text, text-lacks, length-line, parts_at-mark, lines_from-feed, some_line, numbers_at-text, side_small}

-- how it goes on after a record, by what stands against it
abbrev after_piece : ℕ → Form → List Update → Update → List (List ℕ) → Option Why → Records
after_piece depth form before u more fault = elim fault [
  | None ↦ records_after depth form (before ++ u ∷ []) more
  | Some why ↦ record { legal = before; fault = Some why }
]

one_more : (depth : ℕ) (form : Form) (before : List Update) (piece : List ℕ) (more : List (List ℕ)) (u : Update) → fault_at (layout_of form) depth before piece ≡ None → update_at (layout_of form) piece ≡ u
    → records_after depth form before (piece ∷ more) ≡ records_after depth form (before ++ u ∷ []) more
one_more depth form before piece more u legal says =
    ap (after_piece depth form before (update_at (layout_of form) piece) more) legal ∙ ap (λ v. records_after depth form (before ++ v ∷ []) more) says

-- ---- records

pub side_is_one : (s : Side) → nat_lt 1 (side_number s) ≡ false
side_is_one First = refl
side_is_one Second = refl

module _ (width : ℕ) where
  first_byte : (u : Update) → slice_index (record_bytes width u) 0 ≡ side_number u.side
  unfolding record_bytes
  first_byte u = refl

  -- against a whole record with a side stands what stands against its update
  record_fault-is : (depth : ℕ) (before : List Update) (bytes : List ℕ) (u : Update) → length bytes ≡ record_size width → nat_lt 1 (slice_index bytes 0) ≡ false → record_at width bytes ≡ u
      → record_fault width depth before bytes ≡ update_fault depth before u
  record_fault-is depth before bytes u len side says =
      let whole : nat_lt (length bytes) (record_size width) ≡ false = grind (arith, nat_tests, len) in
      rw (whole, side) (ap (update_fault depth before) says)

  record_fault-spelled : (depth : ℕ) (before : List Update) (u : Update) → u.item < 256 ^ width → FitsSigned w64 u.delta → record_fault width depth before (record_bytes width u) ≡ update_fault depth before u
  record_fault-spelled depth before u item fits =
      record_fault-is depth before (record_bytes width u) u (length-record width u) (ap (nat_lt 1) (first_byte u) ∙ side_is_one u.side) (record_back width u item fits)

-- ---- lines

-- the numbers that an update's line says
abbrev pub numbers_of : Update → Numbers
numbers_of u = record { side = side_number u.side; item = u.item; delta = u.delta }

pub said_back : (u : Update) → said (numbers_of u) ≡ u
said_back u = same_parts _ u.item u.delta u (side_back u.side) refl refl

line_parts : (u : Update) → u.item < 2 ^ 48 → FitsSigned w64 u.delta → parts_at 10 (line_bytes u) ≡ Some (text u, [])
line_parts u item fits = ap (parts_at 10) (line-text u) ∙ parts_at-mark 10 (text u) [] (text-lacks u item fits)

line_numbers : (u : Update) → u.item < 2 ^ 48 → FitsSigned w64 u.delta → numbers_at (text u) ≡ Some (numbers_of u)
line_numbers u item fits = numbers_at-text (side_number u.side) u.item u.delta (omega (arith, side_small u.side)) (omega (arith, item)) fits

line_at-is : (line front : List ℕ) (n : Numbers) → parts_at 10 line ≡ Some (front, []) → numbers_at front ≡ Some n → line_at line ≡ said n
line_at-is line front n parts numbers = rw (parts, line_at) (rw numbers refl)

line_fault-is : (depth : ℕ) (before : List Update) (line front : List ℕ) (n : Numbers) → length line ≤ most_line → parts_at 10 line ≡ Some (front, []) → numbers_at front ≡ Some n
    → line_fault depth before line ≡ said_fault depth before n
line_fault-is depth before line front n short parts numbers =
    let fits : nat_lt most_line (length line) ≡ false = grind (arith, nat_tests, short) in
    rw (fits, parts) (rw numbers refl)

line_back : (u : Update) → u.item < 2 ^ 48 → FitsSigned w64 u.delta → line_at (line_bytes u) ≡ u
line_back u item fits = line_at-is (line_bytes u) (text u) (numbers_of u) (line_parts u item fits) (line_numbers u item fits) ∙ said_back u

line_fault-spelled : (depth : ℕ) (before : List Update) (u : Update) → u.item < 2 ^ 48 → FitsSigned w64 u.delta → line_fault depth before (line_bytes u) ≡ update_fault depth before u
line_fault-spelled depth before u item fits =
    let short = length-line u item fits in
    line_fault-is depth before (line_bytes u) (text u) (numbers_of u) (omega (arith, short)) (line_parts u item fits) (line_numbers u item fits)
    ∙ rw (side_is_one u.side) (ap (update_fault depth before) (said_back u))

line_first : (u : Update) (rest : List ℕ) → u.item < 2 ^ 48 → FitsSigned w64 u.delta → lines_from [] (line_bytes u ++ rest) ≡ line_bytes u ∷ lines_from [] rest
line_first u rest item fits =
    let is = line-text u in
    let short = ap length is ∙ length-append (text u) (10 ∷ []) in
    ap (λ l. lines_from [] (l ++ rest)) is
    ∙ ap (lines_from []) (append_assoc (text u) (10 ∷ []) rest)
    ∙ lines_from-feed [] (text u) rest (text-lacks u item fits) (omega (arith, short, length-line u item fits))
    ∙ ap (λ l. l ∷ lines_from [] rest) (sym is)

-- ---- both

-- an item below 2^depth is below each greater power
pub below_deeper : (item depth most : ℕ) → item < 2 ^ depth → depth ≤ most → item < 2 ^ most
below_deeper item depth most below le = let power : 2 ^ depth ≤ 2 ^ most = pow-le-pow_right (omega arith) le in omega (arith, below, power)

-- the item has room in the layout
abbrev HasRoomIn : Layout → ℕ → Type 0
HasRoomIn (of_bytes width) item = item < 256 ^ width
HasRoomIn of_line item = item < 2 ^ 48

has_room : (form : Form) (item : ℕ) → item < 2 ^ deepest_in form → HasRoomIn (layout_of form) item
has_room Binary item small = omega (arith, small)
has_room Text item small = small
has_room Wide item small = omega (arith, small)

fault_spelled : (layout : Layout) (depth : ℕ) (before : List Update) (u : Update) → HasRoomIn layout u.item → FitsSigned w64 u.delta → fault_at layout depth before (spelled layout u) ≡ update_fault depth before u
fault_spelled (of_bytes width) = record_fault-spelled width
fault_spelled of_line = line_fault-spelled

update_spelled : (layout : Layout) (u : Update) → HasRoomIn layout u.item → FitsSigned w64 u.delta → update_at layout (spelled layout u) ≡ u
update_spelled (of_bytes width) = record_back width
update_spelled of_line = line_back

pieces_spelled : (layout : Layout) (u : Update) (rest : List ℕ) → HasRoomIn layout u.item → FitsSigned w64 u.delta → pieces_of layout (spelled layout u ++ rest) ≡ spelled layout u ∷ pieces_of layout rest
pieces_spelled (of_bytes width) u rest item fits = cut-cons (record_size width) (record_bytes width u) rest (omega arith) (length-record width u)
pieces_spelled of_line u rest item fits = line_first u rest item fits

pub fault_at-spelled : (form : Form) (depth : ℕ) (before : List Update) (u : Update) → u.item < 2 ^ deepest_in form → FitsSigned w64 u.delta → fault_at (layout_of form) depth before (spelled (layout_of form) u) ≡ update_fault depth before u
fault_at-spelled form depth before u item fits = fault_spelled (layout_of form) depth before u (has_room form u.item item) fits

pub update_at-spelled : (form : Form) (u : Update) → u.item < 2 ^ deepest_in form → FitsSigned w64 u.delta → update_at (layout_of form) (spelled (layout_of form) u) ≡ u
update_at-spelled form u item fits = update_spelled (layout_of form) u (has_room form u.item item) fits

pub read_back : (depth : ℕ) (form : Form) (before : List Update) (u : Update) (rest : List ℕ) → u.item < 2 ^ deepest_in form → FitsSigned w64 u.delta → update_fault depth before u ≡ None
    → records_from depth form before (spelled (layout_of form) u ++ rest) ≡ records_from depth form (before ++ u ∷ []) rest
read_back depth form before u rest item fits legal =
    ap (records_after depth form before) (pieces_spelled (layout_of form) u rest (has_room form u.item item) fits)
    ∙ one_more depth form before (spelled (layout_of form) u) (pieces_of (layout_of form) rest) u (fault_at-spelled form depth before u item fits ∙ legal) (update_at-spelled form u item fits)

-- no spelling is empty
pub some_spelled : (layout : Layout) (u : Update) → 0 < length (spelled layout u)
some_spelled (of_bytes width) u = omega (arith, length-record width u)
some_spelled of_line u = some_line u
