-- Records that lie one behind the other.
use Rattle.std.proofs.Common.{◌≡◌, ◌∙◌, ℕ, ℤ, ◌+◌, ◌*◌, ◌/◌, ◌<◌, ◌≤◌, List, length, get_or, take, drop, arith, refl, ap, length-take, length-drop}
use Rattle.std.proofs.Math.Nat.{div-mul-le_self}
use Rattle.std.proofs.lemmas.Nat.{row_fits}
use Rattle.std.proofs.lemmas.List.FromFn.{get_or-map-range_with_len, length-map-range_with_len}
use Rattle.sip_stream.specs.Layouts.{record_size}
use Rattle.sip_c.specs.Records.{code_of, codes_of, record_of}
use Rattle.sip_c.specs.declared.codes.UpdateCode.{UpdateCode}

pub same_codes : (item : ℕ) (delta : ℤ) (side : ℕ) (c : UpdateCode) → item ≡ c.item → delta ≡ c.delta → side ≡ c.side → record { item = item; delta = delta; side = side } ≡ c
same_codes item delta side c i d s = rw (i, d, s) refl

-- how many there are
pub count_is : (width : ℕ) (bytes : List ℕ) → length (codes_of width bytes) ≡ length bytes / record_size width
count_is width bytes = length-map-range_with_len (λ k. code_of width (record_of width bytes k)) 0 (length bytes / record_size width)

-- the one at a place
pub code_is : (width : ℕ) (bytes : List ℕ) (k : ℕ) (d : UpdateCode) → k < length (codes_of width bytes) → get_or (codes_of width bytes) k d ≡ code_of width (record_of width bytes k)
code_is width bytes k d lt =
    get_or-map-range_with_len (λ j. code_of width (record_of width bytes j)) 0 (length bytes / record_size width) k k d (omega (arith, lt, count_is width bytes)) (omega arith)

-- and it lies within the bytes
pub within : (width : ℕ) (bytes : List ℕ) (k size : ℕ) → size ≡ record_size width → k < length (codes_of width bytes) → k * size + size ≤ length bytes
within width bytes k size is lt =
    let n = length bytes / record_size width in
    let all : n * record_size width ≤ length bytes = div-mul-le_self (length bytes) (record_size width) in
    let fits = row_fits k size n (record_size width) (omega (arith, lt, count_is width bytes)) (omega (arith, is)) in
    omega (arith, fits, all)

-- a piece of that size is a record
pub piece_is : (width : ℕ) (bytes : List ℕ) (k size : ℕ) (piece : List ℕ) → size ≡ record_size width → piece ≡ take size (drop (k * size) bytes) → piece ≡ record_of width bytes k
piece_is width bytes k size piece is so = so ∙ ap (λ n. take n (drop (k * n) bytes)) is

-- and whole
pub piece_long : (width : ℕ) (bytes : List ℕ) (k size : ℕ) (piece : List ℕ) → size ≡ record_size width → k < length (codes_of width bytes) → piece ≡ take size (drop (k * size) bytes)
    → length piece ≡ record_size width
piece_long width bytes k size piece is lt so =
    let fits = within width bytes k size is lt in
    omega (arith, ap length so, length-take size (drop (k * size) bytes), length-drop (k * size) bytes, fits, is)
