-- The residue of a sum of products is that of the sum of the products of the residues.
use Rattle.std.proofs.Common.{◌≡◌, ℕ, ◌+◌, ◌*◌, ◌%◌, ◌<◌, ℤ, ◌*ℤ◌, List, [], ◌∷◌, map, refl, sym, ◌∙◌, ap, arith}
use Rattle.std.proofs.Math.Nat.{mod-eq_of_lt, mod-add-mod}
use Rattle.std.proofs.lemmas.Nat.{mul-mod_first, mul-mod_second}
use borrow.Author.Differences.{up, down, product_is}
use Rattle.sip_field.specs.Residue.{residue}
use Rattle.sip_vector.proofs.TreeResidues.{residue_below, residue_is, mod_plus, mod_cancel, residue_of_sum}
use Rattle.sip_sums.specs.AcceptsSum.{total}

-- a remainder is its own
pub mod_twice : (p a : ℕ) → a % p % p ≡ a % p
mod_twice p a =
    let before : a % p ≡ a % p + 0 = omega arith in
    let behind : a + 0 ≡ a = omega arith in
    ap (λ k. k % p) before ∙ mod-add-mod a p 0 ∙ ap (λ k. k % p) behind

-- products keep what is the same modulo p
pub mod_times : (p a b c d : ℕ) → a % p ≡ b % p → c % p ≡ d % p → (a * c) % p ≡ (b * d) % p
mod_times p a b c d e f =
    sym (mul-mod_first a c p) ∙ ap (λ k. (k * c) % p) e ∙ mul-mod_first b c p
    ∙ sym (mul-mod_second b c p) ∙ ap (λ k. (b * k) % p) f ∙ mul-mod_second b d p

-- the parts of a product of a - d and b - e, where u and w stand for a and b with d and e added
parts : (a b d e u w : ℕ) → a + d ≡ u → b + e ≡ w → a * b + (u * e + d * w) ≡ u * w + d * e
parts a b d e u w f g = rw (← f, ← g) (omega arith)

-- the residue of a product
pub residue_of_product : (p : ℕ) (x y : ℤ) → 0 < p → residue p (x *ℤ y) ≡ (residue p x * residue p y) % p
residue_of_product p x y some =
    let a : ℕ = residue p x in
    let b : ℕ = residue p y in
    let u : ℕ = a + down x in
    let w : ℕ = b + down y in
    let off : ℕ = down (x *ℤ y) in
    let is_u : u % p ≡ up x % p = residue_is p x some in
    let is_w : w % p ≡ up y % p = residue_is p y some in
    let low : off % p ≡ (u * down y + down x * w) % p =
    ap (λ k. k % p) (product_is x y).1
    ∙ sym (mod_plus p _ _ _ _ (mod_times p u (up x) (down y) (down y) is_u refl) (mod_times p (down x) (down x) w (up y) refl is_w)) in
    let whole : (residue p (x *ℤ y) + off) % p ≡ (u * w + down x * down y) % p =
    residue_is p (x *ℤ y) some ∙ ap (λ k. k % p) (product_is x y).0
    ∙ sym (mod_plus p _ _ _ _ (mod_times p u (up x) w (up y) is_u is_w) refl) in
    let apart : (a * b + off) % p ≡ (u * w + down x * down y) % p =
    mod_plus p (a * b) (a * b) off (u * down y + down x * w) refl low
    ∙ ap (λ k. k % p) (parts a b (down x) (down y) u w refl refl) in
    sym (mod-eq_of_lt (residue_below p (x *ℤ y) some)) ∙ mod_cancel p (residue p (x *ℤ y)) (a * b) off some (whole ∙ sym apart)

-- ---- sums of products

-- the sum of the products of the entries of two lists
abbrev pub dot : List ℕ → List ℕ → ℕ
dot (x ∷ xs) (y ∷ ys) = x * y + dot xs ys
dot _ _ = 0

-- the residue of a sum of products
pub residue_of_total : (p : ℕ) (first second : List ℤ) → 0 < p → residue p (total first second) ≡ dot (map (residue p) first) (map (residue p) second) % p
residue_of_total p [] second some = refl
residue_of_total p (x ∷ xs) [] some = refl
residue_of_total p (x ∷ xs) (y ∷ ys) some =
    let rest : ℕ = dot (map (residue p) xs) (map (residue p) ys) in
    residue_of_sum p (x *ℤ y) (total xs ys) some
    ∙ mod_plus p (residue p (x *ℤ y)) (residue p x * residue p y) (residue p (total xs ys)) rest
    (ap (λ k. k % p) (residue_of_product p x y some) ∙ mod_twice p (residue p x * residue p y))
    (ap (λ k. k % p) (residue_of_total p xs ys some) ∙ mod_twice p rest)
