-- Fields one after the other.
use Rattle.std.proofs.Common.{◌≡◌, ℕ, ◌+◌, Bool, true, false, nat_lt, ◌^◌, ◌&&◌, List, [], ◌∷◌, ◌++◌, length, drop, refl, sym, ap, ◌∙◌, arith, length-drop, length-append}
use Rattle.std.proofs.lemmas.List.{drop-drop, drop_at, nil_from_length, take-append-drop}
use Rattle.std.proofs.lemmas.Bool.{and_from, and_parts, lt-ltb, ltb-true}
use Rattle.byteorder.specs.Endian.{big_number, big_bytes}
use Rattle.byteorder.specs.Numbers.{big_from-lt, big_number-reads_back, length-bytes_high_first}
use Rattle.sip_wire.proofs.Bytes.{IsBytes, IsBytes-drop, bytes_back}
use Rattle.sip_wire.specs.Table.{Field, size}
use Rattle.sip_wire.specs.Spelling.{in_bytes, numbers_in, all_hold, spelled, has_room}

-- fields and more fields take the bytes of both
pub size-append : (fs gs : List Field) → size (fs ++ gs) ≡ size fs + size gs
size-append [] gs = omega arith
size-append (f ∷ fs) gs = omega (arith, size-append fs gs)

-- their numbers are those of the first, and those behind the bytes of the first
pub numbers_in-append : (fs gs : List Field) (bytes : List ℕ) → numbers_in (fs ++ gs) bytes ≡ numbers_in fs bytes ++ numbers_in gs (drop (size fs) bytes)
unfolding numbers_in in_bytes
numbers_in-append [] gs bytes = refl
numbers_in-append (f ∷ fs) gs bytes =
    ap (λ (ns : List ℕ). big_number f.width bytes ∷ ns) (numbers_in-append fs gs (drop f.width bytes) ∙ ap (λ (rest : List ℕ). numbers_in fs (drop f.width bytes) ++ numbers_in gs rest) (drop-drop (size fs) f.width bytes))

-- && groups either way
pub and_assoc : (a b c : Bool) → (a && (b && c)) ≡ ((a && b) && c)
and_assoc true b c = refl
and_assoc false b c = refl

-- each holds its number where those of both lists do
pub all_hold-append : (fs gs : List Field) (bytes ns : List ℕ) → all_hold (fs ++ gs) (numbers_in fs bytes ++ ns) ≡ (all_hold fs (numbers_in fs bytes) && all_hold gs ns)
unfolding numbers_in all_hold in_bytes
all_hold-append [] gs bytes ns = refl
all_hold-append (f ∷ fs) gs bytes ns =
    ap (λ (b : Bool). f.holds (big_number f.width bytes) && b) (all_hold-append fs gs (drop f.width bytes) ns)
    ∙ and_assoc (f.holds (big_number f.width bytes)) (all_hold fs (numbers_in fs (drop f.width bytes))) (all_hold gs ns)

-- ---- fields and their bytes

-- bytes are spelled by the numbers that they hold
pub fields_back : (fs : List Field) (bytes : List ℕ) → IsBytes bytes → size fs ≡ length bytes → spelled fs (numbers_in fs bytes) ≡ bytes
unfolding numbers_in spelled in_bytes
fields_back [] bytes fits len = sym (nil_from_length bytes (sym len))
fields_back (f ∷ fs) bytes fits len =
    let first = bytes_back f.width bytes fits (omega arith) in
    let others = fields_back fs (drop f.width bytes) (IsBytes-drop f.width bytes fits) (omega (arith, length-drop f.width bytes)) in
    rw (first, others) (take-append-drop f.width bytes)

-- and these numbers have room
pub fields_room : (fs : List Field) (bytes : List ℕ) → IsBytes bytes → has_room fs (numbers_in fs bytes) ≡ true
unfolding numbers_in has_room in_bytes
fields_room [] bytes fits = refl
fields_room (f ∷ fs) bytes fits =
    and_from _ _ (lt-ltb _ _ (big_from-lt 0 f.width bytes fits)) (fields_room fs (drop f.width bytes) (IsBytes-drop f.width bytes fits))

-- numbers that have room are spelled in the bytes of their fields
pub fields_size : (fs : List Field) (ns : List ℕ) → has_room fs ns ≡ true → length (spelled fs ns) ≡ size fs
unfolding spelled has_room in_bytes
fields_size [] ns room = refl
fields_size (f ∷ fs) [] room = absurd cc
fields_size (f ∷ fs) (n ∷ ns) room =
    let others : length (spelled fs ns) ≡ size fs = fields_size fs ns (and_parts (nat_lt n (256 ^ f.width)) (has_room fs ns) room).1 in
    length-append (big_bytes f.width n) (spelled fs ns) ∙ omega (arith, length-bytes_high_first f.width n, others)

-- numbers that have room are read again
pub fields_again : (fs : List Field) (ns : List ℕ) → has_room fs ns ≡ true → numbers_in fs (spelled fs ns) ≡ ns
unfolding numbers_in spelled has_room in_bytes
fields_again [] [] room = refl
fields_again [] (n ∷ ns) room = absurd cc
fields_again (f ∷ fs) [] room = absurd cc
fields_again (f ∷ fs) (n ∷ ns) room =
    let both = and_parts _ _ room in
    let number : big_number f.width (big_bytes f.width n ++ spelled fs ns) ≡ n = big_number-reads_back f.width n (spelled fs ns) (ltb-true _ _ both.0) in
    let rest : drop f.width (big_bytes f.width n ++ spelled fs ns) ≡ spelled fs ns = drop_at (big_bytes f.width n) (spelled fs ns) f.width (length-bytes_high_first f.width n) in
    rw (number, rest) (ap (λ (ms : List ℕ). n ∷ ms) (fields_again fs ns both.1))
