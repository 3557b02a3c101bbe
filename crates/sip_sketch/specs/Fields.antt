-- A file of numbers, one behind the other, with a digest at its end. Which number may stand next
-- depends on those before it.
use Rattle.std.specs.Prelude.{ℕ, ◌+◌, ◌^◌, ◌<◌, Bool, nat_lt, ⊤, List, [], ◌∷◌, ◌++◌}
use Rattle.std.specs.Prelude.{length, take, drop, bytes_eq, IsTrue, if◌then◌else◌, Option, Some}
use Rattle.std.specs.Prelude.{None, Result, Ok, Err}
use Rattle.std.specs.Int.{Width, w8, w32, w64, byte_len, to_be_bytes, from_be_bytes}
use Rattle.sha2.specs.Sha256.{sha256}
use Rattle.sip_sketch.specs.declared.cursor.Size.{Size}
use Rattle.sip_sketch.specs.declared.cursor.Size.TheVariants.{Byte, Word, Long}

-- the type that a number of this size has
abbrev pub width_of : Size → Width
width_of Byte = w8
width_of Word = w32
width_of Long = w64

-- a number of a file: how many bytes it takes, and which values it may have
pub record Field : Type 0 where
  pub size : Size
  pub allows : ℕ → Bool

-- the fields of a file
pub data Fields : Type 0 where
  -- the digest of all bytes before, and nothing behind it
  digest : Fields
  -- a field, and by its value those behind it
  one : Field → (ℕ → Fields) → Fields

abbrev pub width : Field → Width
width field = width_of field.size

-- how many bytes a field takes
abbrev pub size : Field → ℕ
size field = byte_len (width field)

-- how many bytes a digest takes
abbrev pub digest_size : ℕ
digest_size = 32

-- how a value is spelled: big endian
abbrev pub spelled : Field → ℕ → List ℕ
spelled field x = to_be_bytes (width field) x

-- it is a value of the field
abbrev pub IsValue : Field → ℕ → Type 0
IsValue field x = IsTrue (field.allows x) × (x < 256 ^ size field)

-- these are values of the fields, one of each
abbrev pub AreValues : Fields → List ℕ → Type 0
AreValues digest [] = ⊤
AreValues digest (x ∷ values) = ⊥
AreValues (one field behind) [] = ⊥
AreValues (one field behind) (x ∷ values) = IsValue field x × AreValues (behind x) values

-- these bytes, and behind them the fields with these values
abbrev pub spelled_behind : List ℕ → Fields → List ℕ → List ℕ
spelled_behind before digest values = before ++ sha256 before
spelled_behind before (one field behind) [] = before
spelled_behind before (one field behind) (x ∷ values) =
    spelled_behind (before ++ spelled field x) (behind x) values

-- the file with these values
abbrev pub spelling : Fields → List ℕ → List ℕ
spelling fields values = spelled_behind [] fields values

-- a choice by what is there
abbrev pub on : {A R : Type 0} → Option A → R → (A → R) → R
on None r f = r
on (Some a) r f = f a

-- the value in front of these bytes: none where they end in it, or it is none of the field
abbrev pub value_of : Field → List ℕ → Option ℕ
value_of field bytes = let x = from_be_bytes (width field) (take (size field) bytes) in
    if nat_lt (length bytes) (size field) then None
    else if field.allows x then Some x else None

-- behind the last field of a file, whose values these are, at this place
abbrev pub closed : List ℕ → List ℕ → ℕ → Result (List ℕ) ℕ
closed bytes values at =
    if bytes_eq (take digest_size (drop at bytes)) (sha256 (take at bytes))
    then (if nat_lt (at + digest_size) (length bytes) then Err (at + digest_size) else Ok values)
    else Err at

-- What the bytes are where these values were read, and these fields stand at this place: the values
-- of all fields, or the first place at which there is no value, or no digest, or a byte too many.
abbrev pub reads : List ℕ → Fields → List ℕ → ℕ → Result (List ℕ) ℕ
reads bytes digest values at = closed bytes values at
reads bytes (one field behind) values at = on (value_of field (drop at bytes)) (Err at)
    (λ x. reads bytes (behind x) (values ++ x ∷ []) (at + size field))

-- what a file is read as
abbrev pub read : Fields → List ℕ → Result (List ℕ) ℕ
read fields bytes = reads bytes fields [] 0
