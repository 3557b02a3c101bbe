-- Bytes that hold a number are its bytes.
use Rattle.std.proofs.Common.{◌≡◌, ℕ, zero, suc, ◌+◌, ◌*◌, ◌/◌, ◌%◌, ◌^◌, ◌<◌, ◌≤◌, List, [], ◌∷◌, length, take, drop, refl, sym, ap, ◌∙◌, arith, inl, inr}
use Rattle.std.proofs.Math.Nat.{div-one, div-eq_of_lt, mod-eq_of_lt, add-mul-div_right, mul-add-div_right, add-mul-mod_self_right, one-le-pow, pow-succ'}
use Rattle.std.proofs.lemmas.Nat.{pow-add}
use Rattle.std.proofs.lemmas.Bool.{cases_lt}
use Rattle.std.proofs.lemmas.List.{length-take, get_or-drop, get_or-take, get_or_past}
use Rattle.std.specs.Int.{byte_at, bytes_high_first}
use Rattle.byteorder.specs.Endian.{big_from}
use Rattle.byteorder.specs.Numbers.{big_from-cons, big_from-lt}
pub use Rattle.sip_wire.specs.Decoding.{IsBytes}

-- what is left of bytes are bytes
pub IsBytes-drop : (n : ℕ) (bytes : List ℕ) → IsBytes bytes → IsBytes (drop n bytes)
IsBytes-drop n bytes h i = rw get_or-drop (h (n + i))

-- the front of bytes are bytes
pub IsBytes-take : (n : ℕ) (bytes : List ℕ) → IsBytes bytes → IsBytes (take n bytes)
IsBytes-take n bytes h i =
    elim (cases_lt i n) [
      | inl lt ↦ rw (get_or-take n bytes i 0 lt) (h i)
      | inr le ↦ rw (get_or_past (take n bytes) i 0 (omega (arith, length-take n bytes))) (omega arith)
    ]

-- what follows a byte are bytes
IsBytes-rest : (b : ℕ) (bytes : List ℕ) → IsBytes (b ∷ bytes) → IsBytes bytes
IsBytes-rest b bytes h i = h (suc i)

-- a power of 256 is not 0
power : (n : ℕ) → 0 < 256 ^ n
power n = let h = one-le-pow n 256 (omega arith) in omega arith

-- a byte of a number, by division
byte_at-pow : (k x : ℕ) → byte_at k x ≡ x / 256 ^ k % 256
byte_at-pow zero x = ap (λ (y : ℕ). y % 256) (sym (div-one x))
byte_at-pow (suc k) x = refl

-- a byte below place n doesn't see what stands from there on
low_byte : (k d y c : ℕ) → byte_at k (y + c * 256 ^ (suc d + k)) ≡ byte_at k y
low_byte k d y c =
    let split : c * 256 ^ (suc d + k) ≡ ((c * 256 ^ d) * 256) * 256 ^ k =
    ap (λ (p : ℕ). c * p) (pow-add 256 (suc d) k ∙ ap (λ (p : ℕ). p * 256 ^ k) (pow-succ' 256 d)) ∙ rearranged c (256 ^ d) (256 ^ k) in
    byte_at-pow k (y + c * 256 ^ (suc d + k))
    ∙ ap (λ (z : ℕ). (y + z) / 256 ^ k % 256) split
    ∙ ap (λ (z : ℕ). z % 256) (add-mul-div_right y ((c * 256 ^ d) * 256) (power k))
    ∙ add-mul-mod_self_right (y / 256 ^ k) (c * 256 ^ d) 256
    ∙ sym (byte_at-pow k y)
  where
    rearranged : (a b e : ℕ) → a * ((256 * b) * e) ≡ ((a * b) * 256) * e
    rearranged a b e = omega arith

-- the lowest m bytes don't see what stands from there on
high_same : (m d y c : ℕ) → bytes_high_first m (y + c * 256 ^ (d + m)) ≡ bytes_high_first m y
high_same zero d y c = refl
high_same (suc m) d y c =
    let moved : d + suc m ≡ suc d + m = omega arith in
    let byte : byte_at m (y + c * 256 ^ (d + suc m)) ≡ byte_at m y = ap (λ (e : ℕ). byte_at m (y + c * 256 ^ e)) moved ∙ low_byte m d y c in
    let rest : bytes_high_first m (y + c * 256 ^ (d + suc m)) ≡ bytes_high_first m y = ap (λ (e : ℕ). bytes_high_first m (y + c * 256 ^ e)) moved ∙ high_same m (suc d) y c in
    rw (byte, rest) refl

-- bytes that are read as a number are the number's bytes
pub bytes_back : (n : ℕ) (bytes : List ℕ) → IsBytes bytes → n ≤ length bytes → bytes_high_first n (big_from 0 n bytes) ≡ take n bytes
bytes_back zero bytes fits le = refl
bytes_back (suc n) [] fits le = absurd (omega arith)
bytes_back (suc n) (b ∷ bytes) fits le =
    let y = big_from 0 n bytes in
    let fits_rest = IsBytes-rest b bytes fits in
    let small : y < 256 ^ n = big_from-lt 0 n bytes fits_rest in
    let is : big_from 0 (suc n) (b ∷ bytes) ≡ b * 256 ^ n + y = ap (λ (r : ℕ). b * 256 ^ n + r) (big_from-cons 0 n b bytes) in
    let is_too : big_from 0 (suc n) (b ∷ bytes) ≡ y + b * 256 ^ n = omega (arith, is) in
    let below : b < 256 = fits 0 in
    let top : byte_at n (b * 256 ^ n + y) ≡ b =
    byte_at-pow n (b * 256 ^ n + y)
    ∙ ap (λ (z : ℕ). z % 256) (mul-add-div_right (power n) b y ∙ ap (λ (z : ℕ). b + z) (div-eq_of_lt small))
    ∙ mod-eq_of_lt (omega arith) ∙ omega arith in
    let others : bytes_high_first n (y + b * 256 ^ n) ≡ bytes_high_first n y = (let z : 0 + n ≡ n = omega arith in ap (λ (e : ℕ). bytes_high_first n (y + b * 256 ^ e)) (sym z)) ∙ high_same n 0 y b in
    ap (λ (x : ℕ). byte_at n x ∷ bytes_high_first n (big_from 0 (suc n) (b ∷ bytes))) is
    ∙ ap (λ (t : ℕ). t ∷ bytes_high_first n (big_from 0 (suc n) (b ∷ bytes))) top
    ∙ ap (λ (x : ℕ). b ∷ bytes_high_first n x) is_too
    ∙ ap (λ (bs : List ℕ). b ∷ bs) (others ∙ bytes_back n bytes fits_rest (omega arith))
