-- What a call that takes one record off the front of some bytes did.
use Rattle.std.specs.Prelude.{◌≡◌, ◌<◌, ◌≤◌, ℕ, nat_lt, List, [], ◌∷◌, ◌++◌, length, take}
use Rattle.std.specs.Prelude.{slice_index, Option, Some, None, Result, Ok, Err, if◌then◌else◌}
use Rattle.sip_ports.specs.declared.port.PortStop.{PortStop}
use Rattle.sip_vector.specs.declared.update.Update.{Update}
use Rattle.sip_stream.specs.declared.line_reader.LineEnd.{LineEnd}
use Rattle.sip_stream.specs.declared.line_reader.LineEnd.TheVariants.{Feed, Input, TooLong}
use Rattle.sip_stream.specs.declared.why.Why.{Why}
use Rattle.sip_stream.specs.declared.why.Why.TheVariants.{BadLine, BadSide}
use Rattle.sip_stream.specs.Layouts.{Layout}
use Rattle.sip_stream.specs.Lines.{numbers_at, parts_at, lines_from, most_line}
use Rattle.sip_stream.specs.Records.{said, record_at, update_at, fault_at, update_fault, pieces_of}

-- what was taken is a front of the bytes, and the rest is left
abbrev pub TakesFront : List ℕ → Option (List ℕ) → Type 0
TakesFront bytes left = (taken rest : List ℕ) × (left ≡ Some rest) × (bytes ≡ taken ++ rest)

-- the piece is the first record of the bytes, and the rest follows
pub record IsFirst (layout : Layout) (bytes piece rest : List ℕ) : Type 0 where
  pub order : bytes ≡ piece ++ rest
  pub cut : pieces_of layout bytes ≡ piece ∷ pieces_of layout rest

-- what a record says: an update, which is then tested by what came before, or none
abbrev pub Says : Layout → List ℕ → Result Update Why → Type 0
Says layout piece (Ok u) =
    (update_at layout piece ≡ u)
    × ((depth : ℕ) (before : List Update)
    → fault_at layout depth before piece ≡ update_fault depth before u)
Says layout piece (Err why) =
    (depth : ℕ) (before : List Update) → fault_at layout depth before piece ≡ Some why

-- the first record was taken, or there is none
abbrev pub ReadsPiece : Layout → List ℕ → Option (List ℕ)
    → Result (Option (Result Update Why)) PortStop → Type 0
ReadsPiece layout bytes left (Ok None) = (bytes ≡ []) × (left ≡ Some [])
ReadsPiece layout bytes left (Ok (Some answer)) =
    (piece rest : List ℕ) × (left ≡ Some rest) × IsFirst layout bytes piece rest
    × Says layout piece answer
ReadsPiece layout bytes left (Err stop) = TakesFront bytes left

-- the first byte was taken, or there is none
abbrev pub ReadsByte : List ℕ → Option (List ℕ) → Result (Option ℕ) PortStop → Type 0
ReadsByte bytes left (Ok None) = (bytes ≡ []) × (left ≡ Some [])
ReadsByte bytes left (Ok (Some byte)) = (rest : List ℕ) × (left ≡ Some rest) × (bytes ≡ byte ∷ rest)
ReadsByte bytes left (Err stop) = left ≡ Some bytes

-- the front of a line without a line feed was taken, and the rest follows
pub record IsBegun (bytes front rest : List ℕ) : Type 0 where
  pub order : bytes ≡ front ++ rest
  pub same : lines_from [] bytes ≡ lines_from front rest
  pub clean : parts_at 10 front ≡ None

-- a line was taken up to its end, or a part of it
abbrev pub TakesLine : List ℕ → List ℕ → Option (List ℕ) → Result LineEnd PortStop → Type 0
TakesLine bytes front left (Ok Input) = IsBegun bytes front [] × (left ≡ Some [])
TakesLine bytes front left (Ok Feed) =
    (rest : List ℕ) × IsBegun bytes front (10 ∷ rest) × (left ≡ Some rest)
    × (length front < most_line)
TakesLine bytes front left (Ok TooLong) =
    (byte : ℕ) × (rest : List ℕ) × IsBegun bytes front (byte ∷ rest) × (left ≡ Some rest)
    × (most_line ≤ length front)
TakesLine bytes front left (Err stop) =
    (rest : List ℕ) × IsBegun bytes front rest × (left ≡ Some rest)

-- what the text of a line says
abbrev pub line_said : List ℕ → Result Update Why
line_said text = elim (numbers_at text) [
  | None ↦ Err BadLine
  | Some n ↦ if nat_lt 1 n.side then Err BadSide else Ok (said n)
]

-- what a whole record of bytes says, the item by so many of them
abbrev pub record_said : ℕ → List ℕ → Result Update Why
record_said width bytes =
    if nat_lt 1 (slice_index bytes 0) then Err BadSide else Ok (record_at width bytes)

-- A line lies in front of the bytes with its line feed, so many bytes in all, and this is what it
-- says.
pub record HoldsLine (bytes : List ℕ) (answer : Result Update Why) (size : ℕ) : Type 0 where
  pub line : List ℕ
  pub order : take size bytes ≡ line ++ 10 ∷ []
  pub clean : parts_at 10 line ≡ None
  pub short : length line < most_line
  pub says : answer ≡ line_said line
