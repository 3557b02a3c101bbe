-- The count of vectors by their first challenge, and what follows from it.
use Rattle.std.proofs.Common.{◌≡◌, ℕ, zero, suc, ◌+◌, ◌*◌, ◌^◌, ◌<◌, ◌≤◌, Bool, true, false, cond, ◌||◌, List, [], ◌∷◌, ◌++◌, length, take, drop, refl, ap, ◌∙◌, arith, inl, inr, add-suc, add-zero}
use Rattle.std.proofs.Math.Nat.{pow-zero, pow-suc, mul_comm}
use Rattle.std.proofs.lemmas.Bool.{cases_Bool}
use Rattle.std.specs.List.{AllByRecursion}
use Rattle.sip_counts.specs.Counts.{sum_below, counted_from, counted}
use Rattle.sip_counts.proofs.Sums.{sum_below-same, sum_below-le, sum_below-at_most, sum_below-add, sum_below-swap}

-- how many vectors of d challenges pass, summed over the first challenge
unfoldable pub by_first : ℕ → (List ℕ → Bool) → ℕ → ℕ
by_first p test zero = cond (test []) 1 0
by_first p test (suc d) = sum_below p (λ x. by_first p (λ v. test (x ∷ v)) d)

counted_from-after : (p x : ℕ) (test : List ℕ → Bool) (more : ℕ) (prefix : List ℕ) → counted_from p test more (x ∷ prefix) ≡ counted_from p (λ v. test (x ∷ v)) more prefix
unfolding counted_from
counted_from-after p x test zero prefix = refl
counted_from-after p x test (suc n) prefix =
    sum_below-same p (λ y. counted_from p test n (x ∷ prefix ++ y ∷ [])) (λ y. counted_from p (λ v. test (x ∷ v)) n (prefix ++ y ∷ []))
    (λ y. counted_from-after p x test n (prefix ++ y ∷ []))

-- it is the count
counted_from-none : (p : ℕ) (test : List ℕ → Bool) (d : ℕ) → counted_from p test d [] ≡ by_first p test d
unfolding counted_from by_first
counted_from-none p test zero = refl
counted_from-none p test (suc d) =
    sum_below-same p (λ x. counted_from p test d (x ∷ [])) (λ x. by_first p (λ v. test (x ∷ v)) d)
    (λ x. counted_from-after p x test d [] ∙ counted_from-none p (λ v. test (x ∷ v)) d)

pub counted-by_first : (p : ℕ) (test : List ℕ → Bool) (d : ℕ) → counted p test d ≡ by_first p test d
unfolding counted
counted-by_first p test d = counted_from-none p test d

pub counted_from-counted : (p : ℕ) (test : List ℕ → Bool) (more : ℕ) (prefix : List ℕ) → counted_from p test more prefix ≡ counted p (λ v. test (prefix ++ v)) more
unfolding counted
counted_from-counted p test more [] = refl
counted_from-counted p test more (x ∷ prefix) = counted_from-after p x test more prefix ∙ counted_from-counted p (λ v. test (x ∷ v)) more prefix

-- ---- its order

pub by_first-pow : (p : ℕ) (test : List ℕ → Bool) (d : ℕ) → by_first p test d ≤ p ^ d
unfolding by_first
by_first-pow p test zero = elim (cases_Bool (test [])) [ inl e ↦ rw (e, pow-zero) (omega arith) | inr e ↦ rw e (omega arith) ]
by_first-pow p test (suc d) =
    let h = sum_below-at_most p (λ x. by_first p (λ v. test (x ∷ v)) d) (p ^ d) (λ x _. by_first-pow p (λ v. test (x ∷ v)) d) in
    rw pow-suc (omega (arith, mul_comm p (p ^ d)))

pub by_first-grows : (p : ℕ) (s t : List ℕ → Bool) (d : ℕ) → ((v : List ℕ) → length v ≡ d → AllByRecursion (λ x. x < p) v → s v ≡ true → t v ≡ true) → by_first p s d ≤ by_first p t d
unfolding by_first
by_first-grows p s t zero h =
    elim (cases_Bool (s [])) [ inl e ↦ rw (e, h [] refl tt e) (omega arith) | inr e ↦ rw e (omega arith) ]
by_first-grows p s t (suc d) h =
    sum_below-le p (λ x. by_first p (λ v. s (x ∷ v)) d) (λ x. by_first p (λ v. t (x ∷ v)) d)
    (λ x lt. by_first-grows p (λ v. s (x ∷ v)) (λ v. t (x ∷ v)) d (λ v l a e. h (x ∷ v) (ap suc l) (lt, a) e))

pub by_first-none : (p d : ℕ) (t : List ℕ → Bool) → ((v : List ℕ) → length v ≡ d → t v ≡ false) → by_first p t d ≡ 0
unfolding by_first sum_below
by_first-none p zero t h = rw (h [] refl) refl
by_first-none p (suc d) t h =
    let le = sum_below-at_most p (λ x. by_first p (λ v. t (x ∷ v)) d) 0 (λ x _. omega (arith, by_first-none p d (λ v. t (x ∷ v)) (λ v e. h (x ∷ v) (ap suc e)))) in
    omega arith

-- the vectors that pass one of two tests are no more than those that pass the first and those that
-- pass the second
pub by_first-or : (p : ℕ) (s t : List ℕ → Bool) (d : ℕ) → by_first p (λ v. s v || t v) d ≤ by_first p s d + by_first p t d
unfolding by_first
by_first-or p s t zero = elim (cases_Bool (s [])) [ inl e ↦ rw e (omega arith) | inr e ↦ rw e (omega arith) ]
by_first-or p s t (suc d) =
    let each = sum_below-le p (λ x. by_first p (λ v. s (x ∷ v) || t (x ∷ v)) d) (λ x. by_first p (λ v. s (x ∷ v)) d + by_first p (λ v. t (x ∷ v)) d)
    (λ x _. by_first-or p (λ v. s (x ∷ v)) (λ v. t (x ∷ v)) d) in
    omega (arith, sum_below-add p (λ x. by_first p (λ v. s (x ∷ v)) d) (λ x. by_first p (λ v. t (x ∷ v)) d))

-- ---- vectors in two parts

-- the sum over the vectors of n challenges
unfoldable pub over : ℕ → (List ℕ → ℕ) → ℕ → ℕ
over p f zero = f []
over p f (suc n) = sum_below p (λ x. over p (λ v. f (x ∷ v)) n)

over-swap : (p q n : ℕ) (f : ℕ → List ℕ → ℕ) → sum_below q (λ x. over p (f x) n) ≡ over p (λ w. sum_below q (λ x. f x w)) n
unfolding over
over-swap p q zero f = refl
over-swap p q (suc n) f =
    sum_below-swap q p (λ x y. over p (λ v. f x (y ∷ v)) n)
    ∙ sum_below-same p (λ y. sum_below q (λ x. over p (λ v. f x (y ∷ v)) n)) (λ y. over p (λ w. sum_below q (λ x. f x (y ∷ w))) n)
    (λ y. over-swap p q n (λ x v. f x (y ∷ v)))

pub over-at_most : (p m n : ℕ) (f : List ℕ → ℕ) → ((w : List ℕ) → length w ≡ n → AllByRecursion (λ x. x < p) w → f w ≤ m) → over p f n ≤ p ^ n * m
unfolding over
over-at_most p m zero f h = let k = h [] refl tt in rw pow-zero (omega arith)
over-at_most p m (suc n) f h =
    let each = sum_below-at_most p (λ x. over p (λ v. f (x ∷ v)) n) (p ^ n * m)
    (λ x lt. over-at_most p m n (λ v. f (x ∷ v)) (λ w e a. h (x ∷ w) (ap suc e) (lt, a))) in
    rw pow-suc (omega arith)

by_first-over : (p n : ℕ) (t : List ℕ → Bool) → by_first p t n ≡ over p (λ w. cond (t w) 1 0) n
unfolding over by_first
by_first-over p zero t = refl
by_first-over p (suc n) t = sum_below-same p (λ x. by_first p (λ v. t (x ∷ v)) n) (λ x. over p (λ w. cond (t (x ∷ w)) 1 0) n) (λ x. by_first-over p n (λ v. t (x ∷ v)))

-- a test of the first d challenges and of the n others: what the first ones count, summed over the
-- others
pub by_first-others : (p d n : ℕ) (t : List ℕ → List ℕ → Bool) → by_first p (λ v. t (take d v) (drop d v)) (n + d) ≡ over p (λ w. by_first p (λ u. t u w) d) n
unfolding by_first
by_first-others p zero n t = rw add-zero (by_first-over p n (t []))
by_first-others p (suc d) n t =
    rw add-suc (sum_below-same p (λ x. by_first p (λ v. t (x ∷ take d v) (drop d v)) (n + d)) (λ x. over p (λ w. by_first p (λ u. t (x ∷ u) w) d) n)
    (λ x. by_first-others p d n (λ u w. t (x ∷ u) w))
    ∙ over-swap p p n (λ x w. by_first p (λ u. t (x ∷ u) w) d))

-- a bound that holds after each first d challenges
pub by_first-back : (p m : ℕ) (s : List ℕ → Bool) (d n : ℕ) → ((u : List ℕ) → length u ≡ d → AllByRecursion (λ x. x < p) u → by_first p (λ v. s (u ++ v)) n ≤ m) → by_first p s (n + d) ≤ p ^ d * m
unfolding by_first
by_first-back p m s zero n h = let k = h [] refl tt in rw (add-zero, pow-zero) (omega arith)
by_first-back p m s (suc d) n h =
    let each = sum_below-at_most p (λ x. by_first p (λ v. s (x ∷ v)) (n + d)) (p ^ d * m)
    (λ x lt. by_first-back p m (λ v. s (x ∷ v)) d n (λ u e a. h (x ∷ u) (ap suc e) (lt, a))) in
    rw (add-suc, pow-suc) (omega arith)

-- ---- the same of the count

pub counted-pow : (p : ℕ) (test : List ℕ → Bool) (d : ℕ) → counted p test d ≤ p ^ d
counted-pow p test d = rw counted-by_first (by_first-pow p test d)

pub counted-grows : (p : ℕ) (s t : List ℕ → Bool) (d : ℕ) → ((v : List ℕ) → length v ≡ d → AllByRecursion (λ x. x < p) v → s v ≡ true → t v ≡ true) → counted p s d ≤ counted p t d
counted-grows p s t d h = rw (counted-by_first p s d, counted-by_first p t d) (by_first-grows p s t d h)

pub counted-none : (p d : ℕ) (t : List ℕ → Bool) → ((v : List ℕ) → length v ≡ d → t v ≡ false) → counted p t d ≡ 0
counted-none p d t h = counted-by_first p t d ∙ by_first-none p d t h
