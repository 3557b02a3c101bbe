-- The legal records that bytes begin with, in each form. A record of bytes is the side in one, the
-- item, and the delta in eight, big endian, the delta in two's complement. A record in text is a
-- line.
use Rattle.std.specs.Prelude.{ℕ, ◌+◌, ◌^◌, ◌==◌, nat_le, nat_lt, pos, List, [], ◌∷◌, ◌++◌, length}
use Rattle.std.specs.Prelude.{drop, slice_index, Option, Some, None, option_and_then, if◌then◌else◌}
use Rattle.std.specs.Int.{w64, cast_signed}
use Rattle.byteorder.specs.Endian.{big_number}
use Rattle.sip_vector.specs.declared.update.Side.TheVariants.{First, Second}
use Rattle.sip_vector.specs.declared.update.Update.{Update}
use Rattle.sip_vector.specs.Answers.{is_zero}
use Rattle.sip_vector.specs.Pieces.{cut}
use Rattle.sip_vector.specs.Streams.{weight, most_weight}
use Rattle.sip_stream.specs.declared.form.Form.{Form}
use Rattle.sip_stream.specs.declared.why.Why.{Why}
use Rattle.sip_stream.specs.declared.why.Why.TheVariants.{Truncated, BadLine, BadSide, BadItem}
use Rattle.sip_stream.specs.declared.why.Why.TheVariants.{ZeroDelta, TooHeavy}
use Rattle.sip_stream.specs.declared.numbers.Numbers.{Numbers}
use Rattle.sip_stream.specs.Layouts.{Layout, of_bytes, of_line, layout_of, record_size}
use Rattle.sip_stream.specs.Lines.{numbers_at, parts_at, lines_from, most_line}

-- why an update is not legal after these
abbrev pub update_fault : ℕ → List Update → Update → Option Why
update_fault depth before u =
    if nat_le (2 ^ depth) u.item then Some BadItem else (
    if is_zero u.delta then Some ZeroDelta else (
    if nat_lt most_weight (weight (before ++ u ∷ []) u.side) then Some (TooHeavy u.side) else None))

-- the update that bytes say, the item by so many of them
abbrev pub record_at : ℕ → List ℕ → Update
record_at width bytes = record {
  side = if slice_index bytes 0 == 0 then First else Second;
  item = big_number width (drop 1 bytes);
  delta = cast_signed w64 (big_number 8 (drop (1 + width) bytes));
}

-- why a piece of bytes is no legal record after these
abbrev pub record_fault : ℕ → ℕ → List Update → List ℕ → Option Why
record_fault width depth before bytes =
    if nat_lt (length bytes) (record_size width) then Some Truncated else (
    if nat_lt 1 (slice_index bytes 0) then Some BadSide
    else update_fault depth before (record_at width bytes))

-- the update that three numbers say
abbrev pub said : Numbers → Update
said n = record { side = if n.side == 0 then First else Second; item = n.item; delta = n.delta }

-- why three numbers say no legal update after these
abbrev pub said_fault : ℕ → List Update → Numbers → Option Why
said_fault depth before n =
    if nat_lt 1 n.side then Some BadSide else update_fault depth before (said n)

-- the update that a line says, and one of zeros where it says none
abbrev pub line_at : List ℕ → Update
line_at line = elim (option_and_then (λ parts. numbers_at parts.0) (parts_at 10 line)) [
  | None ↦ record { side = First; item = 0; delta = pos 0 }
  | Some n ↦ said n
]

-- why a line is no legal record after these
abbrev pub line_fault : ℕ → List Update → List ℕ → Option Why
line_fault depth before line =
    if nat_lt most_line (length line) then Some BadLine else (
    elim (parts_at 10 line) [
      | None ↦ Some Truncated
      | Some parts ↦ elim (numbers_at parts.0) [
        | None ↦ Some BadLine
        | Some n ↦ said_fault depth before n
      ]
    ])

-- the records that bytes are cut into
abbrev pub pieces_of : Layout → List ℕ → List (List ℕ)
pieces_of (of_bytes width) bytes = cut (record_size width) bytes
pieces_of of_line bytes = lines_from [] bytes

-- the update that a record says
abbrev pub update_at : Layout → List ℕ → Update
update_at (of_bytes width) piece = record_at width piece
update_at of_line piece = line_at piece

-- why a record is not legal after these
abbrev pub fault_at : Layout → ℕ → List Update → List ℕ → Option Why
fault_at (of_bytes width) depth before piece = record_fault width depth before piece
fault_at of_line depth before piece = line_fault depth before piece

-- the legal records in front, and why the next one is not legal, where there is one
pub record Records : Type 0 where
  pub legal : List Update
  pub fault : Option Why

abbrev pub records_after : ℕ → Form → List Update → List (List ℕ) → Records
records_after depth form before [] = record { legal = before; fault = None }
records_after depth form before (piece ∷ more) =
    elim (fault_at (layout_of form) depth before piece) [
      | None ↦ records_after depth form (before ++ update_at (layout_of form) piece ∷ []) more
      | Some why ↦ record { legal = before; fault = Some why }
    ]

-- the records of bytes that come after these legal ones
abbrev pub records_from : ℕ → Form → List Update → List ℕ → Records
records_from depth form before bytes =
    records_after depth form before (pieces_of (layout_of form) bytes)

abbrev pub records : ℕ → Form → List ℕ → Records
records depth form bytes = records_from depth form [] bytes
