-- Sums and counts over the numbers below p.
use Rattle.std.proofs.Common.{◌≡◌, ℕ, zero, suc, ◌+◌, ◌*◌, ◌<◌, ◌≤◌, Bool, true, false, cond, eqb, ◌⊎◌, inl, inr, refl, sym, arith}
use Rattle.std.proofs.lemmas.Bool.{cases_Bool, cases_eq, eqb-true, ne_eqb}
use Rattle.sip_counts.specs.Counts.{sum_below, count_below}

-- ---- sums

pub sum_below-same : (p : ℕ) (f g : ℕ → ℕ) → ((x : ℕ) → f x ≡ g x) → sum_below p f ≡ sum_below p g
unfolding sum_below
sum_below-same zero f g h = refl
sum_below-same (suc n) f g h = omega (arith, sum_below-same n f g h, h n)

-- only what is below the bound counts
pub sum_below-within : (p : ℕ) (f g : ℕ → ℕ) → ((x : ℕ) → x < p → f x ≡ g x) → sum_below p f ≡ sum_below p g
unfolding sum_below
sum_below-within zero f g h = refl
sum_below-within (suc n) f g h = omega (arith, sum_below-within n f g (λ x lt. h x (omega arith)), h n (omega arith))

-- the first term, and those behind it
pub sum_below-front : (p : ℕ) (f : ℕ → ℕ) → sum_below (suc p) f ≡ f 0 + sum_below p (λ x. f (suc x))
unfolding sum_below
sum_below-front zero f = omega arith
sum_below-front (suc n) f = omega (arith, sum_below-front n f)

pub sum_below-le : (p : ℕ) (f g : ℕ → ℕ) → ((x : ℕ) → x < p → f x ≤ g x) → sum_below p f ≤ sum_below p g
unfolding sum_below
sum_below-le zero f g h = omega arith
sum_below-le (suc n) f g h = omega (arith, sum_below-le n f g (λ x lt. h x (omega arith)), h n (omega arith))

pub sum_below-at_most : (p : ℕ) (f : ℕ → ℕ) (m : ℕ) → ((x : ℕ) → x < p → f x ≤ m) → sum_below p f ≤ p * m
unfolding sum_below
sum_below-at_most zero f m h = omega arith
sum_below-at_most (suc n) f m h = omega (arith, sum_below-at_most n f m (λ x lt. h x (omega arith)), h n (omega arith))

-- at most a where the test passes, and at most b elsewhere
pub sum_below-split : (p : ℕ) (f : ℕ → ℕ) (t : ℕ → Bool) (a b : ℕ) → ((x : ℕ) → x < p → t x ≡ true → f x ≤ a) → ((x : ℕ) → x < p → t x ≡ false → f x ≤ b) → sum_below p f ≤ count_below p t * a + p * b
unfolding sum_below count_below
sum_below-split zero f t a b h k = omega arith
sum_below-split (suc n) f t a b h k =
    let ih = sum_below-split n f t a b (λ x lt. h x (omega arith)) (λ x lt. k x (omega arith)) in
    elim (cases_Bool (t n)) [
      | inl e ↦ let here = h n (omega arith) e in rw e (omega arith)
      | inr e ↦ let here = k n (omega arith) e in rw e (omega arith)
    ]

pub sum_below-add : (p : ℕ) (f g : ℕ → ℕ) → sum_below p (λ x. f x + g x) ≡ sum_below p f + sum_below p g
unfolding sum_below
sum_below-add zero f g = refl
sum_below-add (suc n) f g = omega (arith, sum_below-add n f g)

pub sum_below-times : (p k : ℕ) (f : ℕ → ℕ) → sum_below p (λ x. f x * k) ≡ sum_below p f * k
unfolding sum_below
sum_below-times zero k f = omega arith
sum_below-times (suc n) k f = omega (arith, sum_below-times n k f)

-- a sum of nothing
sum_below-none : (p : ℕ) → sum_below p (λ x. 0) ≡ 0
unfolding sum_below
sum_below-none zero = refl
sum_below-none (suc n) = omega (arith, sum_below-none n)

-- sums may change places
pub sum_below-swap : (p q : ℕ) (f : ℕ → ℕ → ℕ) → sum_below p (λ x. sum_below q (f x)) ≡ sum_below q (λ y. sum_below p (λ x. f x y))
unfolding sum_below
sum_below-swap zero q f = sym (sum_below-none q)
sum_below-swap (suc n) q f = omega (arith, sum_below-swap n q f, sum_below-add q (λ y. sum_below n (λ x. f x y)) (f n))

-- ---- counts

pub count_below-grows : (p : ℕ) (s t : ℕ → Bool) → ((x : ℕ) → x < p → s x ≡ true → t x ≡ true) → count_below p s ≤ count_below p t
unfolding count_below
count_below-grows p s t h =
    sum_below-le p (λ x. cond (s x) 1 0) (λ x. cond (t x) 1 0)
    (λ x lt. elim (cases_Bool (s x)) [ inl e ↦ rw (e, h x lt e) (omega arith) | inr e ↦ rw e (omega arith) ])

pub count_below-none : (p : ℕ) (t : ℕ → Bool) → ((x : ℕ) → x < p → t x ≡ false) → count_below p t ≡ 0
unfolding count_below sum_below
count_below-none zero t h = refl
count_below-none (suc n) t h = rw (h n (omega arith)) (omega (arith, count_below-none n t (λ x lt. h x (omega arith))))

pub count_below-or : (p : ℕ) (s t u : ℕ → Bool) → ((x : ℕ) → x < p → s x ≡ true → (t x ≡ true) ⊎ (u x ≡ true)) → count_below p s ≤ count_below p t + count_below p u
unfolding count_below sum_below
count_below-or zero s t u h = omega arith
count_below-or (suc n) s t u h =
    let ih = count_below-or n s t u (λ x lt. h x (omega arith)) in
    elim (cases_Bool (s n)) [
      | inl e ↦ elim (h n (omega arith) e) [ inl f ↦ rw (e, f) (omega arith) | inr f ↦ rw (e, f) (omega arith) ]
      | inr e ↦ rw e (omega arith)
    ]

pub count_below-one : (p a : ℕ) → count_below p (λ x. eqb x a) ≤ 1
unfolding count_below sum_below
count_below-one zero a = omega arith
count_below-one (suc n) a =
    elim (cases_Bool (eqb n a)) [
      | inl e ↦
          let same : n ≡ a = eqb-true n a e in
          let none = count_below-none n (λ x. eqb x a) (λ x lt. ne_eqb x a (λ f. omega arith)) in
          rw e (omega arith)
      | inr e ↦ rw e (omega (arith, count_below-one n a))
    ]

-- some number below p passes, or none does
pub search_below : (p : ℕ) (t : ℕ → Bool) → ((a : ℕ) × (a < p) × (t a ≡ true)) ⊎ ((x : ℕ) → x < p → t x ≡ false)
search_below zero t = inr (λ x lt. absurd (omega arith))
search_below (suc n) t =
    elim (cases_Bool (t n)) [
      | inl e ↦ inl (n, omega arith, e)
      | inr e ↦ elim (search_below n t) [
        | inl w ↦ inl (w.0, omega arith, w.2)
        | inr h ↦ inr (λ x lt. elim (cases_eq x n) [ inl f ↦ rw f e | inr f ↦ h x (omega arith) ])
      ]
    ]
