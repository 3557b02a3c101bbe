-- What a sketch has, and its file.
use Rattle.std.specs.Prelude.{◌≡◌, ℕ, zero, suc, ◌+◌, ◌-◌, ◌*◌, ◌/◌, ◌%◌, ◌^◌, ◌==◌, Bool, ◌&&◌}
use Rattle.std.specs.Prelude.{◌||◌, nat_le, nat_lt, List, [], ◌∷◌, ◌++◌, length, All, flat_map}
use Rattle.std.specs.Prelude.{if◌then◌else◌}
use Rattle.std.specs.Int.{from_bool}
use Rattle.sip_field.specs.Moduli.{m61_modulus}
use Rattle.sip_vector.specs.Limits.{most_depth}
use Rattle.sip_vector.specs.Streams.{most_weight}
use Rattle.sip_vector.specs.declared.tally.Negatives.{Negatives}
use Rattle.sip_vector.specs.declared.tally.Tally.{Tally}
use Rattle.sip_vector.specs.declared.update.Side.TheVariants.{First, Second}
use Rattle.sip_sketch.specs.Fields.{Field, Fields, digest, one}
use Rattle.sip_sketch.specs.Fields.{AreValues, spelling}
use Rattle.sip_sketch.specs.declared.cursor.Size.{Size}
use Rattle.sip_sketch.specs.declared.cursor.Size.TheVariants.{Byte, Word, Long}
use Rattle.sip_sketch.specs.declared.kind.SeatKind.{SeatKind}
use Rattle.sip_sketch.specs.declared.kind.SeatKind.TheVariants.{Above, Entries, Heavy, Products, Sums}
use Rattle.sip_sketch.specs.declared.parts.Parts.{Parts}

-- a seat: what it serves, whether a question has used it, its challenges, and two numbers
pub record SeatValues : Type 0 where
  pub kind : SeatKind
  pub is_used : Bool
  pub block : List ℕ
  pub first : ℕ
  pub second : ℕ

-- a sketch: its depth, the parts that are in, what is told of its stream, and its seats
pub record SketchValues : Type 0 where
  pub depth : ℕ
  pub parts : Parts
  pub tally : Tally
  pub seats : List SeatValues

-- ---- which number may stand where

abbrev pub ranged : Size → ℕ → ℕ → Field
ranged size least most = record { size = size; allows = λ x. nat_le least x && nat_le x most }

abbrev pub byte : ℕ → ℕ → Field
byte least most = ranged Byte least most

abbrev pub word : ℕ → ℕ → Field
word least most = ranged Word least most

abbrev pub long : ℕ → ℕ → Field
long least most = ranged Long least most

-- a challenge or a number of a seat
abbrev pub element : Field
element = long 0 (m61_modulus - 1)

-- Which sides had a delta below 0, of sides with these weights: 1 for side 0, and 2 for side 1. A
-- side without weight had none.
abbrev pub negatives_field : ℕ → ℕ → Field
negatives_field first second = record {
  size = Byte;
  allows = λ x. nat_lt x 4 && ((x % 2 == 0 || nat_lt 0 first) && (x / 2 == 0 || nat_lt 0 second));
}

-- The total of a side and the greatest weight, for a side of this weight: the total of a side of
-- which no delta was below 0 is its weight.
abbrev pub total_field : ℕ → Bool → Field
total_field weight is_open =
    long (if is_open then most_weight - weight else most_weight + weight) (most_weight + weight)

-- the second number of a seat with this code and use, in a sketch with these weights and negatives
abbrev pub second_field : ℕ → ℕ → ℕ → ℕ → ℕ → Field
second_field first second negatives kind used =
    if kind == 4 then element
    else if kind == 5 then total_field first (used == 1 || negatives % 2 == 1)
    else if kind == 6 then total_field second (used == 1 || negatives / 2 == 1)
    else long 0 0

-- each of these bytes, as a field of its own
abbrev pub fixed : List ℕ → Fields → Fields
fixed [] behind = behind
fixed (b ∷ bytes) behind = one (byte b b) (λ _. fixed bytes behind)

-- so many elements
abbrev pub elements : ℕ → Fields → Fields
elements zero behind = behind
elements (suc n) behind = one element (λ _. elements n behind)

-- a seat at this depth, where this field is the second number of a code and a use
abbrev pub seat_fields : ℕ → (ℕ → ℕ → Field) → Fields → Fields
seat_fields depth number behind = one (byte 1 8) (λ kind. one (byte 0 1) (λ used.
    elements depth (one element (λ _. one (number kind used) (λ _. behind)))))

-- so many seats, and the digest
abbrev pub seats_fields : ℕ → (ℕ → ℕ → Field) → ℕ → Fields
seats_fields depth number zero = digest
seats_fields depth number (suc n) =
    seat_fields depth number (seats_fields depth number n)

-- the number of parts, and the first and the last that is in
abbrev pub parts_fields : Fields → Fields
parts_fields behind = one (word 1 (2 ^ 32 - 1)) (λ count. one (word 1 count) (λ first.
    one (word first count) (λ _. behind)))

-- the weights, how many records, the negatives and the fingerprint; the first two and the fourth
-- say what stands behind
abbrev pub tally_fields : (ℕ → ℕ → ℕ → Fields) → Fields
tally_fields behind = one (long 0 most_weight) (λ first. one (long 0 most_weight) (λ second.
    one (long 0 (first + second)) (λ _. one (negatives_field first second) (λ negatives.
    one (long 0 (2 ^ 64 - 1)) (λ _. behind first second negatives)))))

-- SIPK, and the version
abbrev pub magic : List ℕ
magic = 0x53 ∷ 0x49 ∷ 0x50 ∷ 0x4b ∷ 1 ∷ []

abbrev pub most_seats : ℕ
most_seats = 64

-- the file of a sketch
abbrev pub sketch_file : Fields
sketch_file = fixed magic (one (byte 1 most_depth) (λ depth. parts_fields (tally_fields
    (λ first second negatives. one (byte 1 most_seats)
    (λ seats. seats_fields depth (second_field first second negatives) seats)))))

-- ---- the numbers of a sketch, in the order of its file

abbrev pub code_of : SeatKind → ℕ
code_of Entries = 1
code_of (Sums First) = 2
code_of (Sums Second) = 3
code_of Products = 4
code_of (Heavy First) = 5
code_of (Heavy Second) = 6
code_of (Above First) = 7
code_of (Above Second) = 8

abbrev pub seat_numbers : SeatValues → List ℕ
seat_numbers s =
    code_of s.kind ∷ from_bool s.is_used ∷ (s.block ++ s.first ∷ s.second ∷ [])

abbrev pub parts_numbers : Parts → List ℕ
parts_numbers p = p.count ∷ p.first ∷ p.last ∷ []

abbrev pub bits_of : Negatives → ℕ
bits_of n = from_bool n.first + 2 * from_bool n.second

abbrev pub tally_numbers : Tally → List ℕ
tally_numbers t = t.first ∷ t.second ∷ t.count ∷ bits_of t.negatives ∷ t.fingerprint ∷ []

-- the second number of a seat with a code and a use, where this is told of the stream
abbrev pub second_of : Tally → ℕ → ℕ → Field
second_of t = second_field t.first t.second (bits_of t.negatives)

abbrev pub numbers : SketchValues → List ℕ
numbers s = magic ++ (s.depth ∷ (parts_numbers s.parts ++ (tally_numbers s.tally
    ++ (length s.seats ∷ flat_map seat_numbers s.seats))))

-- it is a sketch that a file can have
pub record IsSketch (s : SketchValues) : Type 0 where
  pub blocks : All (λ seat. length seat.block ≡ s.depth) s.seats
  pub values : AreValues sketch_file (numbers s)

-- its file
abbrev pub spelled_file : SketchValues → List ℕ
spelled_file s = spelling sketch_file (numbers s)

-- how many bytes it has
abbrev pub size_of : SketchValues → ℕ
size_of s = 84 + length s.seats * (18 + 8 * s.depth)
