-- Sums and counts over the numbers below p, and how many vectors of challenges pass a test.
use Rattle.std.specs.Prelude.{ℕ, zero, suc, ◌+◌, Bool, if◌then◌else◌, List, [], ◌∷◌, ◌++◌}

-- f 0 + f 1 + .. + f (p - 1)
unfoldable pub sum_below : ℕ → (ℕ → ℕ) → ℕ
sum_below zero f = 0
sum_below (suc n) f = sum_below n f + f n

-- how many numbers below p pass a test
unfoldable pub count_below : ℕ → (ℕ → Bool) → ℕ
count_below p test = sum_below p (λ x. if test x then 1 else 0)

-- how many vectors of challenges from 0 to p - 1 pass a test, of those that begin with a prefix and
-- have so many more
unfoldable pub counted_from : ℕ → (List ℕ → Bool) → ℕ → List ℕ → ℕ
counted_from p test zero prefix = if test prefix then 1 else 0
counted_from p test (suc more) prefix =
    sum_below p (λ x. counted_from p test more (prefix ++ x ∷ []))

-- how many of the p ^ d vectors of d challenges pass a test
unfoldable pub counted : ℕ → (List ℕ → Bool) → ℕ → ℕ
counted p test d = counted_from p test d []
