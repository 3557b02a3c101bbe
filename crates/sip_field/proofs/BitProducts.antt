-- Products over the bits of an index: that of the whole is the product of those of its parts.
use Rattle.std.proofs.Common.{◌≡◌, ℕ, zero, suc, ◌+◌, ◌-◌, ◌*◌, ◌/◌, ◌%◌, ◌^◌, ◌<◌, ◌≤◌, ◌==◌, if◌then◌else◌, List, [], ◌∷◌, length, get_or, take, drop, sym, ◌∙◌, ap, arith}
use Rattle.std.proofs.Math.Nat.{mod-lt, mod-eq_of_lt, pow-succ', div-div-eq-div-mul, div-eq_of_lt, mod-add-div}
use Rattle.std.proofs.lemmas.List.{drop_more, drop-take, drop-drop}
use Rattle.std.proofs.lemmas.Nat.{mul-mod_first, mul-mod_second, pow_pos, mod-mul-add, div-mul-add}
use Rattle.sip_field.specs.LawProofs.Congruence.{same_mod}
use Rattle.sip_field.specs.Residue.{difference_mod, product_mod}
use Rattle.sip_field.specs.Products.{bits_product, AreTables}
use Rattle.sip_field.proofs.Doubling.{low_bit, low_half, take_shorter}

-- an index for so many challenges has parts for the first n of them and for the others
pub low_part : (n i : ℕ) (rs : List ℕ) → i < 2 ^ length rs → i % 2 ^ n < 2 ^ length (take n rs)
low_part zero i rs within = omega arith
low_part (suc n) i [] within =
    let none : i ≡ 0 = omega (arith, within) in
    rw none (let one : 0 % 2 ^ suc n < 1 = rw (mod-eq_of_lt (pow_pos (suc n))) (omega arith) in one)
low_part (suc n) i (r ∷ rs) within =
    let more : 2 ^ suc n ≡ 2 * 2 ^ n = pow-succ' 2 n in
    let longer : 2 ^ suc (length (take n rs)) ≡ 2 * 2 ^ length (take n rs) = pow-succ' 2 _ in
    let whole : 2 ^ suc (length rs) ≡ 2 * 2 ^ length rs = pow-succ' 2 _ in
    let half : i / 2 < 2 ^ length rs = omega (arith, within, whole) in
    rw (more, longer) (omega (arith, low_half i (2 ^ n) (pow_pos n), low_part n (i / 2) rs half))

pub high_part : (n i : ℕ) (rs : List ℕ) → i < 2 ^ length rs → i / 2 ^ n < 2 ^ length (drop n rs)
high_part zero i rs within = omega (arith, within)
high_part (suc n) i [] within =
    let none : i ≡ 0 = omega (arith, within) in
    rw none (let one : 0 / 2 ^ suc n < 1 = rw (div-eq_of_lt (pow_pos (suc n))) (omega arith) in one)
high_part (suc n) i (r ∷ rs) within =
    let more : 2 ^ suc n ≡ 2 * 2 ^ n = pow-succ' 2 n in
    let whole : 2 ^ suc (length rs) ≡ 2 * 2 ^ length rs = pow-succ' 2 _ in
    let half : i / 2 < 2 ^ length rs = omega (arith, within, whole) in
    rw (more, sym (div-div-eq-div-mul i 2 (2 ^ n))) (high_part n (i / 2) rs half)

-- the challenges behind one group more
pub eight_more : (k : ℕ) (seat : List ℕ) → drop (8 * (k + 1)) seat ≡ drop 8 (drop (8 * k) seat)
eight_more k seat =
    ap (λ i. drop i seat) (let same : 8 * (k + 1) ≡ 8 * k + 8 = omega arith in same) ∙ sym (drop-drop 8 (8 * k) seat)

module _ (p : ℕ) (zero_of : ℕ → ℕ) (above : 1 < p) where
  pub product_below : (i : ℕ) (rs : List ℕ) → bits_product p zero_of i rs < p
  product_below i [] = above
  product_below i (r ∷ rs) = let some : 0 < p = omega arith in mod-lt _ some

  -- the product of an index is that of its low n bits under the first n challenges, times that of
  -- the others under the others
  pub split_product : (i n : ℕ) (rs : List ℕ) →
      bits_product p zero_of i rs ≡ product_mod p (bits_product p zero_of (i % 2 ^ n) (take n rs)) (bits_product p zero_of (i / 2 ^ n) (drop n rs))
  split_product i zero rs =
      let w : ℕ = bits_product p zero_of i rs in
      let whole : i / 2 ^ 0 ≡ i = omega arith in
      rw whole (sym (ap (λ x. x % p) (let same : 1 * w ≡ w = omega arith in same) ∙ mod-eq_of_lt (product_below i rs)))
  split_product i (suc n) [] = sym (mod-eq_of_lt (let one : 1 * 1 < p = omega arith in one))
  split_product i (suc n) (r ∷ rs) =
      let f : ℕ = if i % 2 == 1 then r else zero_of r in
      let a : ℕ = bits_product p zero_of ((i / 2) % 2 ^ n) (take n rs) in
      let b : ℕ = bits_product p zero_of ((i / 2) / 2 ^ n) (drop n rs) in
      let more : 2 ^ suc n ≡ 2 * 2 ^ n = pow-succ' 2 n in
      let rest : i / (2 * 2 ^ n) ≡ i / 2 / 2 ^ n = sym (div-div-eq-div-mul i 2 (2 ^ n)) in
      rw (more, rest, low_bit i (2 ^ n) (pow_pos n), low_half i (2 ^ n) (pow_pos n))
      (ap (λ w. (f * w) % p) (split_product (i / 2) n rs) ∙ mul-mod_second f (a * b) p
      ∙ ap (λ x. x % p) (let same : f * (a * b) ≡ f * a * b = omega arith in same) ∙ sym (mul-mod_first (f * a) b p))

  module _ (e n r : ℕ) (rs : List ℕ) (low : e < 2 ^ n) (within : n < length rs) (is : get_or rs n 0 ≡ r) where
    alone : take 1 (drop n rs) ≡ r ∷ []
    alone = ap (take 1) (drop_more rs n 0 within) ∙ ap (λ x. x ∷ []) is

    once : (w f : ℕ) → (w * ((f * 1) % p)) % p ≡ (w * f) % p
    once w f = mul-mod_second w (f * 1) p ∙ ap (λ x. x % p) (let same : w * (f * 1) ≡ w * f = omega arith in same)

    -- one challenge more, for the index with the bit 0 for it, and with the bit 1
    pub zero_more : bits_product p zero_of e (take (n + 1) rs) ≡ product_mod p (bits_product p zero_of e (take n rs)) (zero_of r)
    zero_more =
        let inside : e % 2 ^ n ≡ e = mod-eq_of_lt low in
        let none : e / 2 ^ n ≡ 0 = div-eq_of_lt low in
        split_product e n (take (n + 1) rs)
        ∙ rw (inside, none, take_shorter n rs, drop-take n 1 rs, alone) (once (bits_product p zero_of e (take n rs)) (zero_of r))

    pub one_more : bits_product p zero_of (2 ^ n + e) (take (n + 1) rs) ≡ product_mod p (bits_product p zero_of e (take n rs)) r
    one_more =
        let turned : 2 ^ n + e ≡ 1 * 2 ^ n + e = omega arith in
        let inside : (2 ^ n + e) % 2 ^ n ≡ e = ap (λ x. x % 2 ^ n) turned ∙ mod-mul-add 1 (2 ^ n) e low in
        let one : (2 ^ n + e) / 2 ^ n ≡ 1 = ap (λ x. x / 2 ^ n) turned ∙ div-mul-add 1 (2 ^ n) e low in
        split_product (2 ^ n + e) n (take (n + 1) rs)
        ∙ rw (inside, one, take_shorter n rs, drop-take n 1 rs, alone) (once (bits_product p zero_of e (take n rs)) r)

  -- one table more, where v is the product of what there was and the table's entry for the low bits
  -- of the path
  pub one_table : (start index : ℕ) (seat : List ℕ) (tables : List (List ℕ)) (k path u v : ℕ) → AreTables p zero_of seat tables → k < length tables →
      path < 2 ^ length (drop (8 * k) seat) →
      ((y : ℕ) → get_or (get_or tables k []) (path % 256) 0 ≡ 8 * y → v ≡ product_mod p u y) →
      (u * bits_product p zero_of path (drop (8 * k) seat)) % p ≡ (start * bits_product p zero_of index seat) % p →
      (v * bits_product p zero_of (path / 256) (drop (8 * (k + 1)) seat)) % p ≡ (start * bits_product p zero_of index seat) % p
  one_table start index seat tables k path u v are within inside made before =
      let rs : List ℕ = drop (8 * k) seat in
      let a : ℕ = bits_product p zero_of (path % 256) (take 8 rs) in
      let b : ℕ = bits_product p zero_of (path / 256) (drop 8 rs) in
      let entry : get_or (get_or tables k []) (path % 256) 0 ≡ 8 * a = are k within (path % 256) (low_part 8 path rs inside) in
      rw (eight_more k seat, made a entry)
      (mul-mod_first (u * a) b p ∙ ap (λ y. y % p) (let same : u * a * b ≡ u * (a * b) = omega arith in same) ∙ sym (mul-mod_second u (a * b) p)
      ∙ ap (λ w. (u * w) % p) (sym (split_product path 8 rs)) ∙ before)

-- a product with one less the challenge is the difference of the number and its product with the
-- challenge
pub less_product : (p c r : ℕ) → 0 < p → r ≤ p → difference_mod p c (product_mod p c r) ≡ product_mod p c (difference_mod p 1 r)
less_product p c r some small =
    let q : ℕ = p - r in
    let y : ℕ = c * r in
    let inner : y % p < p = mod-lt y some in
    let whole : q + r ≡ p = omega arith in
    let spread : c * (1 + q) + y ≡ c + p * c = (let out : c * (1 + q) + c * r ≡ c + (q + r) * c = omega arith in out) ∙ ap (λ n. c + n * c) whole in
    same_mod p _ _ (record { left = c; right = 1 + y / p; is = omega (arith, inner, mod-add-div y p, spread) })
    ∙ sym (mul-mod_second c (1 + q) p)
