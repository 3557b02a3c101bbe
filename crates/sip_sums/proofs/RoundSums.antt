-- The polynomial of a round: its values are the sums of the products of the folded lists, and those at 0 and 1 add up to that of the lists.
use Rattle.std.proofs.Common.{◌≡◌, ℕ, zero, suc, ◌+◌, ◌-◌, ◌*◌, ◌%◌, ◌<◌, ◌≤◌, List, [], ◌∷◌, length, pos, All, refl, sym, ◌∙◌, ap, arith}
use Rattle.std.proofs.Math.Nat.{add-mod_right}
use Rattle.std.proofs.lemmas.List.Elements.{All-head, All-tail}
use Rattle.sip_field.specs.Polynomial.{polynomial}
use Rattle.sip_field.specs.Residue.{difference_mod}
use Rattle.sip_vector.specs.Extensions.{line}
use Rattle.sip_vector.proofs.TreeResidues.{mod_plus}
use Rattle.sip_counts.proofs.Roots.{value, polynomial-value}
use Rattle.sip_sums.specs.AcceptsSum.{Coefficients, value_at, sum_of_ends}
use Rattle.sip_sums.specs.Honest.{constant, linear, square, over_pairs, its_polynomial}
use Rattle.sip_sums.proofs.ResidueProducts.{mod_twice, mod_times, dot}

-- the polynomial of the round of these lists
abbrev pub polynomial_of : ℕ → List ℕ → List ℕ → Coefficients
polynomial_of p xs ys = its_polynomial p (record { claim = pos 0; first = xs; second = ys })

-- a parabola by Horner's rule
abbrev horner : ℕ → ℕ → ℕ → ℕ → ℕ
horner a b c z = a + z * (b + z * (c + z * 0))

polynomial_is : (a b c z : ℕ) → polynomial z (a ∷ b ∷ c ∷ []) ≡ horner a b c z
unfolding value
polynomial_is a b c z = polynomial-value z (a ∷ b ∷ c ∷ [])

-- remainders of its coefficients change no remainder
horner_mod : (p a b c z : ℕ) → horner (a % p) (b % p) (c % p) z % p ≡ horner a b c z % p
horner_mod p a b c z =
    let last : (c % p + z * 0) % p ≡ (c + z * 0) % p = mod_plus p (c % p) c (z * 0) (z * 0) (mod_twice p c) refl in
    let inner : (b % p + z * (c % p + z * 0)) % p ≡ (b + z * (c + z * 0)) % p =
    mod_plus p (b % p) b _ _ (mod_twice p b) (mod_times p z z _ _ refl last) in
    mod_plus p (a % p) a _ _ (mod_twice p a) (mod_times p z z _ _ refl inner)

-- ---- values

-- the product of two folded pairs, without remainders
abbrev lines : ℕ → ℕ → ℕ → ℕ → ℕ → ℕ → ℕ
lines p z u w x y = (u + z * difference_mod p w u) * (x + z * difference_mod p y x)

value_step : (a b d e z t0 t1 t2 s : ℕ) → horner t0 t1 t2 z ≡ s → horner (a * b + t0) (a * e + b * d + t1) (d * e + t2) z ≡ (a + z * d) * (b + z * e) + s
value_step a b d e z t0 t1 t2 s f = rw (← f) (omega arith)

lines_sum : (p z : ℕ) (xs ys : List ℕ) → horner (over_pairs (constant p) xs ys) (over_pairs (linear p) xs ys) (over_pairs (square p) xs ys) z ≡ over_pairs (lines p z) xs ys
lines_sum p z [] ys = omega arith
lines_sum p z (u ∷ []) ys = omega arith
lines_sum p z (u ∷ w ∷ us) [] = omega arith
lines_sum p z (u ∷ w ∷ us) (x ∷ []) = omega arith
lines_sum p z (u ∷ w ∷ us) (x ∷ y ∷ xs) =
    value_step u x (difference_mod p w u) (difference_mod p y x) z (over_pairs (constant p) us xs) (over_pairs (linear p) us xs) (over_pairs (square p) us xs) (over_pairs (lines p z) us xs) (lines_sum p z us xs)

lines_fold : (p z : ℕ) (xs ys : List ℕ) → over_pairs (lines p z) xs ys % p ≡ dot (line p xs z) (line p ys z) % p
lines_fold p z [] ys = refl
lines_fold p z (u ∷ []) ys = refl
lines_fold p z (u ∷ w ∷ us) [] = refl
lines_fold p z (u ∷ w ∷ us) (x ∷ []) = refl
lines_fold p z (u ∷ w ∷ us) (x ∷ y ∷ xs) =
    mod_plus p _ _ _ _
    (mod_times p (u + z * difference_mod p w u) _ (x + z * difference_mod p y x) _ (sym (mod_twice p _)) (sym (mod_twice p _)))
    (lines_fold p z us xs)

-- the value at a challenge is the sum of the products of the lists folded by it
pub value_is : (p z : ℕ) (xs ys : List ℕ) → value_at p (polynomial_of p xs ys) z ≡ dot (line p xs z) (line p ys z) % p
value_is p z xs ys =
    let a : ℕ = over_pairs (constant p) xs ys in
    let b : ℕ = over_pairs (linear p) xs ys in
    let c : ℕ = over_pairs (square p) xs ys in
    ap (λ k. k % p) (polynomial_is (a % p) (b % p) (c % p) z) ∙ horner_mod p a b c z
    ∙ ap (λ k. k % p) (lines_sum p z xs ys) ∙ lines_fold p z xs ys

-- ---- values at 0 and 1

-- a number and what is missing to another give the other
pub other_end : (p u w : ℕ) → u ≤ p → (u + difference_mod p w u) % p ≡ w % p
other_end p u w le =
    let whole : u + (w + (p - u)) ≡ w + p = omega arith in
    mod_plus p u u _ _ refl (mod_twice p (w + (p - u))) ∙ ap (λ k. k % p) whole ∙ add-mod_right w p

abbrev ends : ℕ → ℕ → ℕ → ℕ
ends a b c = 2 * a + b + c

ends_step : (a b d e t0 t1 t2 : ℕ) → ends (a * b + t0) (a * e + b * d + t1) (d * e + t2) ≡ a * b + ((a + d) * (b + e) + ends t0 t1 t2)
ends_step a b d e t0 t1 t2 = omega arith

ends_sum : (p m : ℕ) (xs ys : List ℕ) → length xs ≡ 2 * m → length ys ≡ 2 * m → All (λ x. x < p) xs → All (λ x. x < p) ys
    → ends (over_pairs (constant p) xs ys) (over_pairs (linear p) xs ys) (over_pairs (square p) xs ys) % p ≡ dot xs ys % p
ends_sum p m [] ys e f below also = refl
ends_sum p m (u ∷ []) ys e f below also = absurd (omega arith)
ends_sum p m (u ∷ w ∷ us) [] e f below also = absurd (omega arith)
ends_sum p m (u ∷ w ∷ us) (x ∷ []) e f below also = absurd (omega arith)
ends_sum p zero (u ∷ w ∷ us) (x ∷ y ∷ xs) e f below also = absurd (omega arith)
ends_sum p (suc m) (u ∷ w ∷ us) (x ∷ y ∷ xs) e f below also =
    let P : ℕ → Type 0 = λ n. n < p in
    let first : u < p = All-head P u (w ∷ us) below in
    let second : x < p = All-head P x (y ∷ xs) also in
    let rest = ends_sum p m us xs (omega arith) (omega arith) (All-tail P w us (All-tail P u (w ∷ us) below)) (All-tail P y xs (All-tail P x (y ∷ xs) also)) in
    ap (λ k. k % p) (ends_step u x (difference_mod p w u) (difference_mod p y x) (over_pairs (constant p) us xs) (over_pairs (linear p) us xs) (over_pairs (square p) us xs))
    ∙ mod_plus p (u * x) (u * x) _ _ refl
    (mod_plus p _ (w * y) _ (dot us xs) (mod_times p _ w _ y (other_end p u w (omega arith)) (other_end p x y (omega arith))) rest)

-- remainders of coefficients change no remainder
pub ends_mod : (p a b c d e f : ℕ) → a % p ≡ d % p → b % p ≡ e % p → c % p ≡ f % p → ends a b c % p ≡ ends d e f % p
ends_mod p a b c d e f g h k =
    mod_plus p (2 * a + b) (2 * d + e) c f (mod_plus p (2 * a) (2 * d) b e (mod_times p 2 2 a d refl g) h) k

-- the values at 0 and 1 add up to the sum of the products
pub ends_are : (p m : ℕ) (xs ys : List ℕ) → length xs ≡ 2 * m → length ys ≡ 2 * m → All (λ x. x < p) xs → All (λ x. x < p) ys → sum_of_ends p (polynomial_of p xs ys) ≡ dot xs ys % p
ends_are p m xs ys e f below also =
    let a : ℕ = over_pairs (constant p) xs ys in
    let b : ℕ = over_pairs (linear p) xs ys in
    let c : ℕ = over_pairs (square p) xs ys in
    ends_mod p (a % p) (b % p) (c % p) a b c (mod_twice p a) (mod_twice p b) (mod_twice p c) ∙ ends_sum p m xs ys e f below also
