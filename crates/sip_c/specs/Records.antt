-- Updates as the records of a file.
use Rattle.std.specs.Prelude.{◌≡◌, ℕ, ◌+◌, ◌*◌, ◌/◌, ◌%◌, List, map, take, drop, length}
use Rattle.std.specs.Prelude.{slice_index, ◌==◌, ◌⊎◌, Option, Some, None, MatchOption}
use Rattle.std.specs.Prelude.{if◌then◌else◌}
use Rattle.std.specs.Int.{w64, cast_signed}
use Rattle.std.specs.List.{range_with_len}
use Rattle.byteorder.specs.Endian.{big_number}
use Rattle.sip_stream.specs.Layouts.{record_size}
use Rattle.sip_c.specs.declared.codes.UpdateCode.{UpdateCode}
use Rattle.sip_c.specs.declared.refusal.Refusal.{Refusal}
use Rattle.sip_c.specs.declared.refusal.Refusal.TheVariants as refusals

-- what a record says, whose item has so many bytes
abbrev pub code_of : ℕ → List ℕ → UpdateCode
code_of width record_bytes = record {
  item = big_number width (drop 1 record_bytes);
  delta = cast_signed w64 (big_number 8 (drop (1 + width) record_bytes));
  side = slice_index record_bytes 0;
}

-- record k of some bytes
abbrev pub record_of : ℕ → List ℕ → ℕ → List ℕ
record_of width bytes k = take (record_size width) (drop (k * record_size width) bytes)

-- what their whole records say, in order
abbrev pub codes_of : ℕ → List ℕ → List UpdateCode
codes_of width bytes = map (λ k. code_of width (record_of width bytes k))
    (range_with_len 0 (length bytes / record_size width))

-- the bytes are whole records
abbrev pub AreRecords : ℕ → List ℕ → Type 0
AreRecords width bytes = length bytes % record_size width ≡ 0

-- how many bytes the item has in a record of the form of this code
abbrev pub width_of : ℕ → Option ℕ
width_of form = if form == 1 then Some 4 else if form == 2 then Some 8 else None

-- Of why they are no records of a form the first holds: that there is no such form, or that they
-- are not whole. Of what records of the form say the second holds.
abbrev pub ByRecords : ℕ → List ℕ → (Refusal → Type 0) → (List UpdateCode → Type 0) → Type 0
ByRecords form bytes Q P = MatchOption (width_of form) (Q refusals.BadCode)
    (λ width. (Q refusals.BadLength × ¬ AreRecords width bytes)
    ⊎ (AreRecords width bytes × P (codes_of width bytes)))
