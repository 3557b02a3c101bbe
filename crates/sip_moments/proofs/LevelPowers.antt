-- The polynomial of a folded list: its values are the sums of the powers of the list folded once
-- more, and those at 0 and 1 add up to that of the list.
use Rattle.std.proofs.Common.{◌≡◌, ℕ, zero, suc, ◌+◌, ◌*◌, ◌-◌, ◌%◌, ◌^◌, ◌<◌, List, [], ◌∷◌, length, map, sum_by, All, refl, ap, sym, ◌∙◌, arith, add-one}
use Rattle.std.specs.List.{range_with_len}
use Rattle.std.proofs.Math.Nat.{pow-zero}
use Rattle.std.proofs.lemmas.Nat.{mul-pow, pow-mod}
use Rattle.std.proofs.lemmas.List.Elements.{All-head, All-tail}
use Rattle.std.proofs.lemmas.List.Sums.{sum_by-cons}
use Rattle.sip_field.specs.Residue.{difference_mod}
use Rattle.sip_vector.specs.Extensions.{line}
use Rattle.sip_vector.proofs.TreeResidues.{mod_plus}
use Rattle.sip_counts.specs.Counts.{sum_below}
use Rattle.sip_counts.specs.Rounds.{sum_of_ends, value_at}
use Rattle.sip_counts.proofs.Sums.{sum_below-add}
use Rattle.sip_sums.specs.Honest.{over_pairs}
use Rattle.sip_counts.proofs.Sums.{sum_below-within}
use Rattle.sip_sums.proofs.RoundSums.{other_end}
use Rattle.sip_moments.specs.Honest.{binomial, of_first, term}
use Rattle.sip_moments.proofs.Binomials.{binomial-theorem, power_term}
use Rattle.sip_moments.proofs.RangeSums.{ends-mod, value-range}

-- the sum of the k-th powers
unfoldable pub powers : ℕ → List ℕ → ℕ
powers k [] = 0
powers k (x ∷ xs) = x ^ k + powers k xs

pub powers-sum : (k : ℕ) (xs : List ℕ) → powers k xs ≡ sum_by (λ x. x ^ k) xs
unfolding powers
powers-sum k [] = refl
powers-sum k (x ∷ xs) = ap (λ n. x ^ k + n) (powers-sum k xs) ∙ sym (sum_by-cons (λ y. y ^ k) x xs)

-- powers of what is the same modulo p
pub same_power : (p k a b : ℕ) → a % p ≡ b % p → a ^ k % p ≡ b ^ k % p
same_power p k a b e = sym (pow-mod a k p) ∙ ap (λ n. n ^ k % p) e ∙ pow-mod b k p

-- coefficient m of the polynomial of a list, before the remainder
abbrev pub coefficient : ℕ → ℕ → List ℕ → ℕ → ℕ
coefficient p k xs m = over_pairs (of_first p k m) xs xs

abbrev pub polynomial_of : ℕ → ℕ → List ℕ → List ℕ
polynomial_of p k xs = map (λ m. coefficient p k xs m % p) (range_with_len 0 (k + 1))

-- ---- values

term_at : (p k x u w m : ℕ) → term p k m u w * x ^ m ≡ power_term k u (difference_mod p w u * x) m
term_at p k x u w m =
    rw (mul-pow (difference_mod p w u) x m) (let e : (a b c d : ℕ) → a * b * c * d ≡ a * b * (c * d) = λ a b c d. omega arith in e (binomial k m) (u ^ (k - m)) (difference_mod p w u ^ m) (x ^ m))

terms_at : (p k x u w : ℕ) → sum_below (suc k) (λ m. term p k m u w * x ^ m) ≡ (u + difference_mod p w u * x) ^ k
terms_at p k x u w =
    sum_below-within (suc k) _ _ (λ m lt. term_at p k x u w m) ∙ binomial-theorem k u (difference_mod p w u * x)

nothing : (n x : ℕ) → sum_below n (λ m. 0 * x ^ m) ≡ 0
unfolding sum_below
nothing zero x = refl
nothing (suc n) x = omega (arith, nothing n x)

values_sum : (p k x : ℕ) (xs : List ℕ) → sum_below (suc k) (λ m. coefficient p k xs m * x ^ m) % p ≡ powers k (line p xs x) % p
unfolding powers
values_sum p k x [] = ap (λ n. n % p) (nothing (suc k) x)
values_sum p k x (u ∷ []) = ap (λ n. n % p) (nothing (suc k) x)
values_sum p k x (u ∷ w ∷ us) =
    let apart : sum_below (suc k) (λ m. coefficient p k (u ∷ w ∷ us) m * x ^ m)
    ≡ sum_below (suc k) (λ m. term p k m u w * x ^ m) + sum_below (suc k) (λ m. coefficient p k us m * x ^ m) =
    sum_below-within (suc k) _ _ (λ m lt. let e : (a b c : ℕ) → (a + b) * c ≡ a * c + b * c = λ a b c. omega arith in e (term p k m u w) (coefficient p k us m) (x ^ m))
    ∙ sum_below-add (suc k) (λ m. term p k m u w * x ^ m) (λ m. coefficient p k us m * x ^ m) in
    let swapped : u + difference_mod p w u * x ≡ u + x * difference_mod p w u = omega arith in
    ap (λ n. n % p) apart
    ∙ mod_plus p _ (((u + x * difference_mod p w u) % p) ^ k) _ _
    (ap (λ n. n % p) (terms_at p k x u w ∙ ap (λ n. n ^ k) swapped) ∙ sym (pow-mod (u + x * difference_mod p w u) k p))
    (values_sum p k x us)

-- the value at a challenge
pub value_is : (p k x : ℕ) (xs : List ℕ) → value_at p (polynomial_of p k xs) x ≡ powers k (line p xs x) % p
value_is p k x xs =
    value-range p (coefficient p k xs) x (k + 1) ∙ ap (λ n. sum_below n (λ m. coefficient p k xs m * x ^ m) % p) (add-one k) ∙ values_sum p k x xs

-- ---- values at 0 and 1

first_is : (p k u w : ℕ) → term p k 0 u w ≡ u ^ k
first_is p k u w =
    let whole : k - 0 ≡ k = omega arith in
    rw (whole, pow-zero (difference_mod p w u)) (omega arith)

terms_sum : (p k u w : ℕ) → sum_below (suc k) (λ m. term p k m u w) ≡ (u + difference_mod p w u) ^ k
terms_sum p k u w = binomial-theorem k u (difference_mod p w u)

rearranged : (a b c d : ℕ) → a + c + (b + d) ≡ a + b + (c + d)
rearranged a b c d = omega arith

ends_step : (p k u w : ℕ) (us : List ℕ) → coefficient p k (u ∷ w ∷ us) 0 + sum_below (suc k) (coefficient p k (u ∷ w ∷ us))
    ≡ u ^ k + (u + difference_mod p w u) ^ k + (coefficient p k us 0 + sum_below (suc k) (coefficient p k us))
ends_step p k u w us =
    ap (λ n. n + coefficient p k us 0 + sum_below (suc k) (coefficient p k (u ∷ w ∷ us))) (first_is p k u w)
    ∙ ap (λ n. u ^ k + coefficient p k us 0 + n) (sum_below-add (suc k) (λ m. term p k m u w) (coefficient p k us) ∙ ap (λ n. n + sum_below (suc k) (coefficient p k us)) (terms_sum p k u w))
    ∙ rearranged (u ^ k) ((u + difference_mod p w u) ^ k) (coefficient p k us 0) (sum_below (suc k) (coefficient p k us))

no_sum : (n : ℕ) → sum_below n (λ m. 0) ≡ 0
unfolding sum_below
no_sum zero = refl
no_sum (suc n) = omega (arith, no_sum n)

ends_sum : (p k m : ℕ) (xs : List ℕ) → length xs ≡ 2 * m → All (λ x. x < p) xs
    → (coefficient p k xs 0 + sum_below (suc k) (coefficient p k xs)) % p ≡ powers k xs % p
unfolding powers
ends_sum p k m [] e below = ap (λ n. n % p) (omega (arith, no_sum (suc k)))
ends_sum p k m (u ∷ []) e below = absurd (omega arith)
ends_sum p k zero (u ∷ w ∷ us) e below = absurd (omega arith)
ends_sum p k (suc m) (u ∷ w ∷ us) e below =
    let P : ℕ → Type 0 = λ n. n < p in
    let least : u < p = All-head P u (w ∷ us) below in
    let rest = ends_sum p k m us (omega arith) (All-tail P w us (All-tail P u (w ∷ us) below)) in
    ap (λ n. n % p) (ends_step p k u w us)
    ∙ mod_plus p (u ^ k + (u + difference_mod p w u) ^ k) (u ^ k + w ^ k) _ (powers k us)
    (mod_plus p (u ^ k) (u ^ k) _ (w ^ k) refl (same_power p k (u + difference_mod p w u) w (other_end p u w (omega arith)))) rest
    ∙ ap (λ n. n % p) (let f : u ^ k + w ^ k + powers k us ≡ u ^ k + (w ^ k + powers k us) = omega arith in f)

-- their sum is that of the powers
pub ends_are : (p k m : ℕ) (xs : List ℕ) → length xs ≡ 2 * m → All (λ x. x < p) xs → sum_of_ends p (polynomial_of p k xs) ≡ powers k xs % p
ends_are p k m xs e below =
    ap (λ n. sum_of_ends p (map (λ i. coefficient p k xs i % p) (range_with_len 0 n))) (add-one k)
    ∙ ends-mod p (coefficient p k xs) k ∙ ends_sum p k m xs e below
