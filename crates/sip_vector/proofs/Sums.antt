-- Sums of signed numbers.
use Rattle.std.proofs.Common.{◌≡◌, ℕ, zero, suc, ◌+◌, ◌<◌, ◌≤◌, List, [], ◌∷◌, ◌++◌, length, get_or, set, replicate, sum_by, ℤ, pos, negsuc, ◌+ℤ◌, nat_abs, refl, arith}
use Rattle.std.proofs.lemmas.Int.{ints}
use Rattle.std.proofs.lemmas.List.Sums.{sum_by-cons}
use Rattle.sip_vector.specs.Streams.{int_sum}

pub int_sum-append : (xs ys : List ℤ) → int_sum (xs ++ ys) ≡ int_sum xs +ℤ int_sum ys
int_sum-append [] ys = omega (arith, ints)
int_sum-append (x ∷ xs) ys = omega (arith, ints, int_sum-append xs ys)

pub int_sum-zeros : (n : ℕ) → int_sum (replicate n (pos 0)) ≡ pos 0
int_sum-zeros zero = refl
int_sum-zeros (suc n) = omega (arith, ints, int_sum-zeros n)

-- the sum once d is added to one number
pub int_sum-set : (xs : List ℤ) (k : ℕ) (d : ℤ) → k < length xs → int_sum (set xs k (get_or xs k (pos 0) +ℤ d)) ≡ int_sum xs +ℤ d
int_sum-set [] k d below = absurd (omega arith)
int_sum-set (x ∷ xs) zero d below = omega (arith, ints)
int_sum-set (x ∷ xs) (suc k) d below = omega (arith, ints, int_sum-set xs k d (omega arith))

pub nat_abs-add-le : (a b : ℤ) → nat_abs (a +ℤ b) ≤ nat_abs a + nat_abs b
nat_abs-add-le (pos a) (pos b) = grind (arith, ints)
nat_abs-add-le (pos a) (negsuc b) = grind (arith, ints)
nat_abs-add-le (negsuc a) (pos b) = grind (arith, ints)
nat_abs-add-le (negsuc a) (negsuc b) = grind (arith, ints)

nat_abs-add-le_more : (a b : ℤ) (m : ℕ) → nat_abs b ≤ m → nat_abs (a +ℤ b) ≤ nat_abs a + m
nat_abs-add-le_more a b m h = omega (arith, nat_abs-add-le a b)

-- a sum is no greater than the sum of the absolute values
pub nat_abs-int_sum-le : (xs : List ℤ) → nat_abs (int_sum xs) ≤ sum_by nat_abs xs
nat_abs-int_sum-le [] = omega arith
nat_abs-int_sum-le (x ∷ xs) =
    rw (sum_by-cons nat_abs x xs) (nat_abs-add-le_more x (int_sum xs) (sum_by nat_abs xs) (nat_abs-int_sum-le xs))

pub sum_by-zeros : (n : ℕ) → sum_by nat_abs (replicate n (pos 0)) ≡ 0
sum_by-zeros zero = refl
sum_by-zeros (suc n) = rw (sum_by-cons nat_abs (pos 0) (replicate n (pos 0)), sum_by-zeros n) refl
