-- The value of a polynomial whose coefficients are a function of their place, as a sum over the
-- places.
use Rattle.std.proofs.Common.{◌≡◌, ℕ, zero, suc, ◌+◌, ◌*◌, ◌%◌, ◌^◌, List, [], ◌∷◌, map, sum, refl, ap, sym, ◌∙◌, arith}
use Rattle.std.specs.List.{range_with_len}
use Rattle.std.proofs.lemmas.List.Sums.{sum_by-cons}
use Rattle.sip_field.specs.Polynomial.{powers_from, polynomial}
use Rattle.sip_vector.proofs.TreeResidues.{mod_plus}
use Rattle.sip_counts.specs.Counts.{sum_below}
use Rattle.sip_counts.specs.Rounds.{sum_of_ends, value_at}
use Rattle.sip_counts.proofs.Sums.{sum_below-front, sum_below-within}
use Rattle.sip_sums.proofs.ResidueProducts.{mod_twice, mod_times}

pub map_same : {X Y : Type 0} (f g : X → Y) (xs : List X) → ((x : X) → f x ≡ g x) → map f xs ≡ map g xs
map_same f g [] same = refl
map_same f g (x ∷ xs) same = ap (λ y. y ∷ map f xs) (same x) ∙ ap (λ ys. g x ∷ ys) (map_same f g xs same)

powers_from-range : (f : ℕ → ℕ) (x a n : ℕ) → powers_from a x (map f (range_with_len a n)) ≡ sum_below n (λ i. f (a + i) * x ^ (a + i))
unfolding sum_below
powers_from-range f x a zero = refl
powers_from-range f x a (suc n) =
    let here : a + 0 ≡ a = omega arith in
    let next : a + 1 ≡ suc a = omega arith in
    ap (λ m. f a * x ^ a + m) (powers_from-range f x (a + 1) n
    ∙ sum_below-within n _ _ (λ i lt. ap (λ k. f k * x ^ k) (let e : a + 1 + i ≡ a + suc i = omega arith in e)))
    ∙ ap (λ k. f k * x ^ k + sum_below n (λ i. f (a + suc i) * x ^ (a + suc i))) (sym here)
    ∙ sym (sum_below-front n (λ i. f (a + i) * x ^ (a + i)))

-- the value at x
pub polynomial-range : (f : ℕ → ℕ) (x n : ℕ) → polynomial x (map f (range_with_len 0 n)) ≡ sum_below n (λ i. f i * x ^ i)
polynomial-range f x n =
    powers_from-range f x 0 n ∙ sum_below-within n _ _ (λ i lt. ap (λ k. f k * x ^ k) (let e : 0 + i ≡ i = omega arith in e))

sum-range : (f : ℕ → ℕ) (a n : ℕ) → sum (map f (range_with_len a n)) ≡ sum_below n (λ i. f (a + i))
unfolding sum_below
sum-range f a zero = refl
sum-range f a (suc n) =
    let here : a + 0 ≡ a = omega arith in
    sum_by-cons (λ k. k) (f a) (map f (range_with_len (a + 1) n))
    ∙ ap (λ m. f a + m) (sum-range f (a + 1) n ∙ sum_below-within n _ _ (λ i lt. ap f (let e : a + 1 + i ≡ a + suc i = omega arith in e)))
    ∙ ap (λ k. f k + sum_below n (λ i. f (a + suc i))) (sym here)
    ∙ sym (sum_below-front n (λ i. f (a + i)))

-- the sum of the values at 0 and 1
pub ends-range : (p : ℕ) (f : ℕ → ℕ) (n : ℕ) → sum_of_ends p (map f (range_with_len 0 (suc n))) ≡ (f 0 + sum_below (suc n) f) % p
ends-range p f n =
    let rest : sum (map f (range_with_len (0 + 1) n)) ≡ sum_below n (λ i. f (suc i)) =
    sum-range f (0 + 1) n ∙ sum_below-within n _ _ (λ i lt. ap f (let e : 0 + 1 + i ≡ suc i = omega arith in e)) in
    ap (λ k. k % p) (let e : 2 * f 0 + sum (map f (range_with_len (0 + 1) n)) ≡ f 0 + sum_below (suc n) f = omega (arith, rest, sum_below-front n f) in e)

-- ---- remainders of coefficients change no remainder

pub sum_below-mod : (p n : ℕ) (f g : ℕ → ℕ) → ((i : ℕ) → f i % p ≡ g i % p) → sum_below n f % p ≡ sum_below n g % p
unfolding sum_below
sum_below-mod p zero f g same = refl
sum_below-mod p (suc n) f g same = mod_plus p (sum_below n f) (sum_below n g) (f n) (g n) (sum_below-mod p n f g same) (same n)

pub value-range : (p : ℕ) (f : ℕ → ℕ) (x n : ℕ) → value_at p (map (λ m. f m % p) (range_with_len 0 n)) x ≡ sum_below n (λ i. f i * x ^ i) % p
value-range p f x n =
    ap (λ k. k % p) (polynomial-range (λ m. f m % p) x n)
    ∙ sum_below-mod p n (λ i. (f i % p) * x ^ i) (λ i. f i * x ^ i) (λ i. mod_times p (f i % p) (f i) (x ^ i) (x ^ i) (mod_twice p (f i)) refl)

pub ends-mod : (p : ℕ) (f : ℕ → ℕ) (n : ℕ) → sum_of_ends p (map (λ m. f m % p) (range_with_len 0 (suc n))) ≡ (f 0 + sum_below (suc n) f) % p
ends-mod p f n =
    ends-range p (λ m. f m % p) n
    ∙ mod_plus p (f 0 % p) (f 0) _ _ (mod_twice p (f 0)) (sum_below-mod p (suc n) (λ m. f m % p) f (λ i. mod_twice p (f i)))
