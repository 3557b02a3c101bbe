-- A number in front of bytes, and its spelling.
use Rattle.std.proofs.Common.{◌≡◌, ℕ, ◌+◌, ◌^◌, ◌%◌, ◌<◌, ◌≤◌, Bool, true, false, cond, ltb, List, [], ◌∷◌, ◌++◌, length, get_or, take, drop, Option, Some, None, refl, sym, ap, subst, ◌∙◌, arith, inl, inr, ◌⊎◌, All}
use Rattle.std.specs.Prelude.{IsTrue}
use Rattle.std.specs.Int.{w8, byte_len, from_be_bytes, to_be_bytes}
use Rattle.std.proofs.lemmas.Bool.{cases_Bool, cases_lt, ltb-false, le-ltb}
use Rattle.std.proofs.lemmas.List.{take_at, length-append, length-take, get_or-drop, get_or-take, get_or_past}
use Rattle.std.proofs.lemmas.Nat.{be_bytes_4, be_bytes_8, from_be_bytes-to_be_bytes_4, from_be_bytes-to_be_bytes_8}
use Rattle.sip_sketch.specs.declared.cursor.Size.{Size}
use Rattle.sip_sketch.specs.declared.cursor.Size.TheVariants.{Byte, Word, Long}
use Rattle.sip_sketch.specs.Fields.{Field, width_of, width, size, spelled, IsValue, value_of}

-- each is a byte
abbrev pub IsBytes : List ℕ → Type 0
IsBytes bytes = (i : ℕ) → get_or bytes i 0 < 256

pub from_all : (bytes : List ℕ) → All (λ b. b < 256) bytes → IsBytes bytes
from_all bytes all i = elim (cases_lt i (length bytes)) [
  | inl lt ↦ all i 0 lt
  | inr le ↦ rw (get_or_past bytes i 0 le) (omega arith)
]

pub bytes-drop : (n : ℕ) (bytes : List ℕ) → IsBytes bytes → IsBytes (drop n bytes)
bytes-drop n bytes h i = rw get_or-drop (h (n + i))

pub bytes-take : (n : ℕ) (bytes : List ℕ) → IsBytes bytes → IsBytes (take n bytes)
bytes-take n bytes h i =
    elim (cases_lt i n) [
      | inl lt ↦ rw (get_or-take n bytes i 0 lt) (h i)
      | inr le ↦ rw (get_or_past (take n bytes) i 0 (omega (arith, length-take n bytes))) (omega arith)
    ]

pub which : {A : Type 0} (o : Option A) → (o ≡ None) ⊎ ((a : A) × (o ≡ Some a))
which None = inl refl
which (Some a) = inr (a, refl)

one_byte : (bs : List ℕ) → length bs ≡ 1 → IsBytes bs → to_be_bytes w8 (from_be_bytes w8 bs) ≡ bs
one_byte [] l fits = absurd (omega (arith, l))
one_byte (b ∷ []) l fits =
    let low : b < 256 = fits 0 in
    let same : b % 256 ≡ b = omega (arith, low) in
    ap (λ k. k ∷ []) same
one_byte (b ∷ c ∷ bs) l fits = absurd (omega (arith, l))

-- so many bytes are how their number is spelled
pub spelled_back : (s : Size) (bs : List ℕ) → length bs ≡ byte_len (width_of s) → IsBytes bs
    → to_be_bytes (width_of s) (from_be_bytes (width_of s) bs) ≡ bs
spelled_back Byte bs l fits = one_byte bs l fits
spelled_back Word bs l fits = be_bytes_4 bs _ l fits refl
spelled_back Long bs l fits = be_bytes_8 bs _ l fits refl

-- and it has room in them
pub number_below : (s : Size) (bs : List ℕ) → IsBytes bs
    → from_be_bytes (width_of s) bs < 256 ^ byte_len (width_of s)
number_below Byte bs f = f 0
number_below Word bs f = omega (arith, f 0, f 1, f 2, f 3)
number_below Long bs f = omega (arith, f 0, f 1, f 2, f 3, f 4, f 5, f 6, f 7)

-- a number that has room is read back
pub number_back : (s : Size) (x : ℕ) → x < 256 ^ byte_len (width_of s)
    → from_be_bytes (width_of s) (to_be_bytes (width_of s) x) ≡ x
number_back Byte x small = omega (arith, small)
number_back Word x small = from_be_bytes-to_be_bytes_4 x small
number_back Long x small = from_be_bytes-to_be_bytes_8 x small

pub spelled_size : (s : Size) (x : ℕ) → length (to_be_bytes (width_of s) x) ≡ byte_len (width_of s)
spelled_size Byte x = refl
spelled_size Word x = refl
spelled_size Long x = refl

-- what was taken off the front of bytes
pub record Takes (f : Field) (bytes : List ℕ) (x : ℕ) : Type 0 where
  pub front : take (size f) bytes ≡ spelled f x
  pub value : IsValue f x
  pub long : size f ≤ length bytes

within_parts : (f : Field) (n x : ℕ) → cond (f.allows n) (Some n) None ≡ Some x
    → (n ≡ x) × IsTrue (f.allows x)
within_parts f n x e = elim (cases_Bool (f.allows n)) [
  | inl t ↦
      let h : Some n ≡ Some x = rw t at e in
      let same : n ≡ x = cc in
      (same, subst (λ k. f.allows k ≡ true) same t)
  | inr fails ↦ let h : None ≡ Some x = rw fails at e in absurd cc
]

pub value_takes : (f : Field) (bytes : List ℕ) (x : ℕ) → IsBytes bytes → value_of f bytes ≡ Some x
    → Takes f bytes x
value_takes f bytes x fits e = elim (cases_Bool (ltb (length bytes) (size f))) [
  | inl short ↦ let h : None ≡ Some x = rw short at e in absurd cc
  | inr enough ↦
      let long : size f ≤ length bytes = ltb-false _ _ enough in
      let n : ℕ = from_be_bytes (width f) (take (size f) bytes) in
      let h : cond (f.allows n) (Some n) None ≡ Some x = rw enough at e in
      let w = within_parts f n x h in
      let front = bytes-take (size f) bytes fits in
      let l : length (take (size f) bytes) ≡ size f = omega (arith, length-take (size f) bytes, long) in
      record {
        front = sym (ap (spelled f) (sym w.0) ∙ spelled_back f.size (take (size f) bytes) l front);
        value = (w.1, subst (λ k. k < 256 ^ size f) w.0 (number_below f.size (take (size f) bytes) front));
        long = long;
      }
]

-- what is written is read again
pub value_again : (f : Field) (x : ℕ) (rest : List ℕ) → IsValue f x
    → value_of f (spelled f x ++ rest) ≡ Some x
value_again f x rest v =
    let l = spelled_size f.size x in
    let long : ltb (length (spelled f x ++ rest)) (size f) ≡ false =
    le-ltb _ _ (omega (arith, l, length-append (spelled f x) rest)) in
    let front : take (size f) (spelled f x ++ rest) ≡ spelled f x = take_at (spelled f x) rest (size f) l in
    let number : from_be_bytes (width f) (take (size f) (spelled f x ++ rest)) ≡ x =
    ap (from_be_bytes (width f)) front ∙ number_back f.size x v.1 in
    let at : Bool → ℕ → Option ℕ = λ b n. cond b None (cond (f.allows n) (Some n) None) in
    let allowed : cond (f.allows x) (Some x) None ≡ Some x = rw v.0 refl in
    ap (λ b. at b (from_be_bytes (width f) (take (size f) (spelled f x ++ rest)))) long ∙ ap (at false) number ∙ allowed
