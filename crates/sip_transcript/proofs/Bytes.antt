-- Fields of a fixed length, read.
use Rattle.std.proofs.Common.{◌≡◌, ℕ, ◌^◌, ◌<◌, ◌≤◌, Bool, true, false, ◌&&◌, cond, Option, Some, None, List, [], ◌∷◌, ◌++◌, length, take, refl, sym, ap, subst, ◌∙◌, arith, take_all, take_at, w32, w64}
use Rattle.std.specs.Prelude.{nat_le, ◌==◌}
use Rattle.std.specs.Int.{to_be_bytes, from_be_bytes}
use Rattle.std.specs.Io.KnownBytes.{Consumes, IsAtEnd}
use Rattle.std.proofs.lemmas.Nat.{from_be_bytes-to_be_bytes_4}
use Rattle.std.proofs.lemmas.Bool.{and_parts}
use Rattle.std.proofs.lemmas.Bool.Decides.{nat_tests}
use Rattle.std.proofs.lemmas.List.{append-nil, length-take}
use Rattle.byteorder.specs.Endian.{big_number}
use Rattle.byteorder.specs.Numbers.{big_number-reads_back}
use Rattle.sip_wire.specs.Spelling.{in_bytes}
use Rattle.sip_wire.specs.Table.{is_element}
use Rattle.sip_wire.specs.Transcript.{magic}
use Rattle.sip_transcript.specs.Fields.{begins, element_field, text_field}
use Rattle.sip_transcript.proofs.Passing.{by_tests}

-- fewer bytes came than were asked for: there were no more
pub came_all : (old new : Option (List ℕ)) (bytes got : List ℕ) → old ≡ Some bytes → Consumes old new got → IsAtEnd new → bytes ≡ got
came_all None new bytes got e taken end = absurd cc
came_all (Some xs) None bytes got e taken end = absurd taken
came_all (Some xs) (Some ys) bytes got e taken end =
    let same : bytes ≡ xs = cc in
    let none : ys ≡ [] = end in
    same ∙ taken ∙ ap (λ (l : List ℕ). got ++ l) none ∙ append-nil got

-- as many bytes came as were asked for
pub came_whole : (old new : Option (List ℕ)) (buf : List ℕ) (n : ℕ) → Consumes old new (take n buf) → length buf ≤ n → Consumes old new buf
came_whole old new buf n taken le = subst (λ (l : List ℕ). Consumes old new l) (take_all n buf le) taken

-- ---- a text

-- what begins with a text has it in front
begins-take : (text bytes : List ℕ) → begins text bytes ≡ true → take (length text) bytes ≡ text
begins-take [] bytes is = refl
begins-take (x ∷ xs) [] is = absurd (let no : false ≡ true = is in cc)
begins-take (x ∷ xs) (b ∷ bytes) is =
    let both = and_parts (b == x) (begins xs bytes) is in
    let same : b ≡ x = grind (arith, nat_tests, both.0) in
    ap (λ (n : ℕ). n ∷ take (length xs) bytes) same ∙ ap (λ (l : List ℕ). x ∷ l) (begins-take xs bytes both.1)

-- what a text's test answers
abbrev by_text : Bool → Option ℕ
by_text passes = cond passes (Some (length magic)) None

-- where the bytes do not have the magic in front, it is not there
pub no_magic : (bytes : List ℕ) → (take 4 bytes ≡ magic → ⊥) → text_field magic bytes ≡ None
no_magic bytes other = by_begins (begins magic bytes) refl
  where
    by_begins : (b : Bool) → begins magic bytes ≡ b → text_field magic bytes ≡ None
    by_begins true e = absurd (other (begins-take magic bytes e))
    by_begins false e = ap by_text e

-- too few bytes
pub magic-short : (bytes : List ℕ) → length bytes < 4 → text_field magic bytes ≡ None
magic-short bytes lt = no_magic bytes (λ same. let long : length (take 4 bytes) ≡ 4 = ap length same in omega (arith, long, length-take 4 bytes))

-- the number of the magic
pub magic-bytes : to_be_bytes w32 1397313620 ≡ magic
magic-bytes = refl

-- other bytes
pub magic-other : (buf rest : List ℕ) (n : ℕ) → length buf ≡ 4 → to_be_bytes w32 n ≡ buf → n < 2 ^ 32 → (n ≡ 1397313620 → ⊥) → text_field magic (buf ++ rest) ≡ None
magic-other buf rest n len is small other =
    no_magic (buf ++ rest) (λ same.
    let all : buf ≡ magic = sym (take_at buf rest 4 len) ∙ same in
    other (sym (from_be_bytes-to_be_bytes_4 n small) ∙ ap (from_be_bytes w32) (is ∙ all)))

-- ---- an element

-- too few bytes
pub element-short : (bytes : List ℕ) → length bytes < 8 → element_field bytes ≡ None
element-short bytes lt =
    let short : nat_le 8 (length bytes) ≡ false = grind (arith, nat_tests) in
    ap (λ (b : Bool). by_tests (b && is_element (big_number 8 bytes))) short

-- a test of which the second part fails
second_fails : (a b : Bool) → b ≡ false → (a && b) ≡ false
second_fails true b e = e
second_fails false b e = refl

-- a number that is no element
pub element-other : (x : ℕ) (rest : List ℕ) → x < 2 ^ 64 → is_element x ≡ false → element_field (to_be_bytes w64 x ++ rest) ≡ None
element-other x rest small other =
    let bytes = to_be_bytes w64 x ++ rest in
    let read : big_number 8 bytes ≡ x = big_number-reads_back 8 x rest (omega (arith, small)) in
    ap by_tests (second_fails (nat_le 8 (length bytes)) (is_element (big_number 8 bytes)) (ap is_element read ∙ other))

-- its bytes are those that a transcript has
pub element-bytes : (x : ℕ) → to_be_bytes w64 x ≡ in_bytes 8 x
unfolding in_bytes
element-bytes x = refl
