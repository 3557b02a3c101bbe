-- Records of bytes that are passed over: they are the spellings of their updates.
use Rattle.std.proofs.Common.{◌≡◌, ℕ, zero, suc, ◌+◌, ◌*◌, ◌/◌, ◌%◌, ◌^◌, ◌<◌, ◌≤◌, Bool, true, false, cond, List, [], ◌∷◌, ◌++◌, length, length-drop, take, drop, refl, sym, ap, ◌∙◌, arith, take-append-drop, w64}
use Rattle.std.specs.Prelude.{Ok, Err, nat_lt, slice_index, ◌==◌}
use Rattle.std.specs.Int.{byte_at, bytes_high_first, cast_signed, cast_unsigned}
use Rattle.std.proofs.Math.Nat.{add-mul, mul_assoc, add_assoc, pow-succ'}
use Rattle.std.proofs.lemmas.Nat.{div-mul-add, mod-mul-add}
use Rattle.std.proofs.lemmas.Bool.{lt-ltb, true≢false}
use Rattle.std.proofs.lemmas.Int.{of_z-to_z}
use Rattle.std.proofs.lemmas.List.{take_all}
use Rattle.byteorder.specs.Endian.{big_bytes, big_from, big_number}
use Rattle.byteorder.specs.Numbers.{big_from-cons, big_from-lt}
use Rattle.sip_vector.specs.declared.update.Side.TheVariants.{First, Second}
use Rattle.sip_vector.specs.declared.update.Update.{Update}
use Rattle.sip_stream.specs.declared.why.Why.TheVariants.{BadSide}
use Rattle.std.proofs.lemmas.List.Concat.{flat_map-append}
use Rattle.std.proofs.lemmas.List.{append-nil}
use Rattle.sip_stream.specs.declared.form.Form.{Form}
use Rattle.sip_stream.specs.Layouts.{layout_of, of_bytes, record_size}
use Rattle.sip_stream.specs.Pieces.{record_said}
use Rattle.sip_stream.specs.Records.{record_at}
use Rattle.sip_stream.specs.Spellings.{all_spelled, record_bytes, side_number, spelled}

-- each byte is below 256
abbrev pub AreBytes : List ℕ → Type 0
AreBytes bytes = (k : ℕ) → slice_index bytes k < 256

-- byte n of a number that has this one there
byte_there : (n q a low x : ℕ) → a < 256 → low < 256 ^ n → x ≡ (q * 256 + a) * 256 ^ n + low → byte_at n x ≡ a
byte_there zero q a low x small below is = let same : x ≡ q * 256 + a = omega (arith, is, below) in ap (λ m. m % 256) same ∙ mod-mul-add q 256 a small
byte_there (suc n) q a low x small below is = ap (λ m. m / 256 ^ suc n % 256) is ∙ ap (λ m. m % 256) (div-mul-add (q * 256 + a) (256 ^ suc n) low below) ∙ mod-mul-add q 256 a small

-- a byte more in front of a number
place_more : (q a p low : ℕ) → q * (256 * p) + (a * p + low) ≡ (q * 256 + a) * p + low
place_more q a p low = ap (λ m. m + (a * p + low)) (sym (mul_assoc q 256 p)) ∙ sym (add_assoc (q * 256 * p) (a * p) low) ∙ ap (λ m. m + low) (sym (add-mul (q * 256) a p))

-- the low bytes of a number are the bytes that its low part is read from
bytes_back : (n q : ℕ) (bytes : List ℕ) → n ≤ length bytes → AreBytes bytes → bytes_high_first n (q * 256 ^ n + big_from 0 n bytes) ≡ take n bytes
bytes_back zero q bytes long are = refl
bytes_back (suc n) q [] long are = absurd (omega (arith, long))
bytes_back (suc n) q (a ∷ bytes) long are =
    let low = big_from 0 n bytes in
    let below : low < 256 ^ n = big_from-lt 0 n bytes (λ k. are (suc k)) in
    let x = q * 256 ^ suc n + (a * 256 ^ n + big_from 1 n (a ∷ bytes)) in
    let is : x ≡ (q * 256 + a) * 256 ^ n + low = ap (λ m. q * 256 ^ suc n + (a * 256 ^ n + m)) (big_from-cons 0 n a bytes) ∙ ap (λ m. q * m + (a * 256 ^ n + low)) (pow-succ' 256 n) ∙ place_more q a (256 ^ n) low in
    let first : byte_at n x ≡ a = byte_there n q a low x (are 0) below is in
    ap (λ b. b ∷ bytes_high_first n x) first ∙ ap (λ m. a ∷ bytes_high_first n m) is ∙ ap (λ l. a ∷ l) (bytes_back n (q * 256 + a) bytes (omega (arith, long)) (λ k. are (suc k)))

-- a number that is read from all of some bytes has these bytes
number_spelled : (n : ℕ) (bytes : List ℕ) → n ≤ length bytes → AreBytes bytes → big_bytes n (big_number n bytes) ≡ take n bytes
number_spelled n bytes long are =
    let low : 0 * 256 ^ n + big_from 0 n bytes ≡ big_from 0 n bytes = omega arith in
    ap (bytes_high_first n) (sym low) ∙ bytes_back n 0 bytes long are

-- what is left of bytes are bytes
left_bytes : (n : ℕ) (bytes : List ℕ) → AreBytes bytes → AreBytes (drop n bytes)
left_bytes zero bytes are = are
left_bytes (suc n) [] are = are
left_bytes (suc n) (a ∷ bytes) are = left_bytes n bytes (λ k. are (suc k))

-- a front of bytes are bytes
front_bytes : (n : ℕ) (bytes : List ℕ) → AreBytes bytes → AreBytes (take n bytes)
front_bytes zero bytes are k = omega arith
front_bytes (suc n) [] are k = are k
front_bytes (suc n) (a ∷ bytes) are zero = are 0
front_bytes (suc n) (a ∷ bytes) are (suc k) = front_bytes n bytes (λ j. are (suc j)) k

-- and so is a part of them
pub part_bytes : (from n : ℕ) (bytes : List ℕ) → AreBytes bytes → AreBytes (take n (drop from bytes))
part_bytes from n bytes are = front_bytes n (drop from bytes) (left_bytes from bytes are)

-- a side that is none or one is spelled by its number
pub side_spelled : (b : ℕ) (is : Bool) → nat_lt 1 b ≡ is → is ≡ false → side_number (cond (b == 0) First Second) ≡ b
side_spelled zero is e none = refl
side_spelled (suc zero) is e none = refl
side_spelled (suc (suc b)) is e none = absurd (true≢false (sym (lt-ltb 1 (suc (suc b)) (omega arith)) ∙ e ∙ none))

-- the update that a whole record says
said_ok : (width : ℕ) (bytes : List ℕ) (u : Update) (is : Bool) → Ok u ≡ cond is (Err BadSide) (Ok (record_at width bytes)) → (is ≡ false) × (u ≡ record_at width bytes)
said_ok width bytes u true said = cc
said_ok width bytes u false said = (refl, cc)

-- the parts of a record's spelling stand behind one another
spelled_by : (width : ℕ) (u : Update) (b : ℕ) (rest : List ℕ) → side_number u.side ≡ b → big_bytes width u.item ≡ take width rest → big_bytes 8 (cast_unsigned w64 u.delta) ≡ drop width rest → record_bytes width u ≡ b ∷ rest
unfolding record_bytes
spelled_by width u b rest side item delta = rw (side, item, delta) (ap (λ l. b ∷ l) (take-append-drop width rest))

-- a whole record is the spelling of the update that it says
pub record_spelled : (width : ℕ) (bytes : List ℕ) (u : Update) → length bytes ≡ record_size width → AreBytes bytes → Ok u ≡ record_said width bytes → record_bytes width u ≡ bytes
record_spelled width [] u len are said = absurd (omega (arith, len))
record_spelled width (b ∷ bytes) u len are said =
    let ok = said_ok width (b ∷ bytes) u (nat_lt 1 b) said in
    let below = λ (k : ℕ). are (suc k) in
    let side = side_spelled b (nat_lt 1 b) refl ok.0 in
    let item = number_spelled width bytes (omega (arith, len)) below in
    let rest : length (drop width bytes) ≡ 8 = omega (arith, length-drop width bytes, len) in
    let bits = big_number 8 (drop width bytes) in
    let small : bits < 256 ^ 8 = big_from-lt 0 8 (drop width bytes) (left_bytes width bytes below) in
    let delta : big_bytes 8 (cast_unsigned w64 (cast_signed w64 bits)) ≡ drop width bytes =
    ap (big_bytes 8) (of_z-to_z w64 bits (omega (arith, small))) ∙ number_spelled 8 (drop width bytes) (omega (arith, rest)) (left_bytes width bytes below) ∙ take_all 8 (drop width bytes) (omega (arith, rest)) in
    let behind : 1 + width ≡ suc width = omega arith in
    let moved : drop (1 + width) (b ∷ bytes) ≡ drop width bytes = ap (λ n. drop n (b ∷ bytes)) behind in
    let said_delta = ap (λ l. big_bytes 8 (cast_unsigned w64 (cast_signed w64 (big_number 8 l)))) moved ∙ delta in
    ap (record_bytes width) ok.1 ∙ spelled_by width (record_at width (b ∷ bytes)) b bytes side item said_delta

-- the spellings of updates, and of one more
pub all_spelled-one : (form : Form) (us : List Update) (u : Update) → all_spelled form (us ++ u ∷ []) ≡ all_spelled form us ++ spelled (layout_of form) u
all_spelled-one form us u = flat_map-append (spelled (layout_of form)) us (u ∷ []) ∙ ap (λ l. all_spelled form us ++ l) (append-nil (spelled (layout_of form) u))

-- one more record was passed
pub passed_one : (width : ℕ) (form : Form) (us : List Update) (u : Update) (taken piece : List ℕ) → layout_of form ≡ of_bytes width → all_spelled form us ≡ taken
    → length piece ≡ record_size width → AreBytes piece → Ok u ≡ record_said width piece → all_spelled form (us ++ u ∷ []) ≡ taken ++ piece
passed_one width form us u taken piece layout so len are said =
    all_spelled-one form us u ∙ ap (λ l. l ++ spelled (layout_of form) u) so ∙ ap (λ l. taken ++ spelled l u) layout ∙ ap (λ l. taken ++ l) (record_spelled width piece u len are said)
