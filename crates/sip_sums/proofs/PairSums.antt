-- Sums over the pairs of a list are those over all pairs of neighbours.
use Rattle.std.proofs.Common.{◌≡◌, ℕ, zero, suc, ◌+◌, ◌-◌, ◌*◌, ◌%◌, ◌<◌, List, [], ◌∷◌, length, get_or, refl, sym, ap, ◌∙◌, inl, inr, arith}
use Rattle.std.proofs.Math.Nat.{mod-lt, mod-eq_of_lt, mod_self, mod-add-mod}
use Rattle.std.proofs.lemmas.Bool.Decides.{eqb_tells}
use Rattle.sip_field.specs.Residue.{difference_mod}
use Rattle.sip_sums.specs.AcceptsSum.{Coefficients}
use Rattle.sip_sums.specs.Checking.{zero_polynomial}
use Rattle.sip_sums.specs.Honest.{constant, linear, square, over_pairs}
use Rattle.sip_sums.specs.Pairs.{Neighbours, neighbours, paired, pair_at, pair_in, polynomial_over, summed, with_product}
use Rattle.sip_sums.proofs.ListPairs.{entries_from, pair_before, pairs_from, pairs-first, pair_at-pairs}

-- the sum of a function over pairs
abbrev pub over : (Neighbours → ℕ) → List Neighbours → ℕ
over f [] = 0
over f (s ∷ ss) = f s + over f ss

abbrev Of : Type 0
Of = ℕ → ℕ → ℕ → ℕ → ℕ

-- what a coefficient gets from a pair that is taken with another one
abbrev pub term : Of → (Neighbours → Neighbours) → Neighbours → ℕ
term of other s = of s.left s.right (other s).left (other s).right

over-before : (f : Neighbours → ℕ) (k u w : ℕ) (ss : List Neighbours) → f (neighbours k 0 0) ≡ 0 → over f (pair_before k u w ss) ≡ f (neighbours k u w) + over f ss
over-before f k u w ss nothing = elim (eqb_tells u 0) [
  | inl t ↦ elim (eqb_tells w 0) [
    | inl v ↦ rw (t.0, v.0, t.1, v.1, nothing) (omega arith)
    | inr v ↦ rw (t.0, v.0) refl
  ]
  | inr t ↦ rw t.0 refl
]

module _ (of : Of) (nothing : (x y : ℕ) → of 0 0 x y ≡ 0) where
  -- each pair with itself
  pub over-squares : (k m : ℕ) (xs : List ℕ) → length xs ≡ 2 * m → over (term of (λ s. s)) (pairs_from k xs) ≡ over_pairs of xs xs
  over-squares k m [] long = refl
  over-squares k m (u ∷ []) long = absurd (omega (arith, long))
  over-squares k zero (u ∷ w ∷ xs) long = absurd (omega (arith, long))
  over-squares k (suc m) (u ∷ w ∷ xs) long =
      ap (over (term of (λ s. s))) (pairs-first k u w xs)
      ∙ over-before (term of (λ s. s)) k u w (pairs_from (k + 1) xs) (nothing 0 0)
      ∙ ap (λ n. of u w u w + n) (over-squares (k + 1) m xs (omega (arith, long)))

  -- each pair with that of another list at its index
  pub over-products : (other : ℕ → Neighbours) (k m : ℕ) (xs ys : List ℕ) → length xs ≡ 2 * m → length ys ≡ 2 * m
      → ((j : ℕ) → ((other (k + j)).left ≡ get_or ys (2 * j) 0) × ((other (k + j)).right ≡ get_or ys (2 * j + 1) 0))
      → over (term of (λ s. other s.index)) (pairs_from k xs) ≡ over_pairs of xs ys
  over-products other k m [] ys long same at = refl
  over-products other k m (u ∷ []) ys long same at = absurd (omega (arith, long))
  over-products other k zero (u ∷ w ∷ xs) ys long same at = absurd (omega (arith, long))
  over-products other k (suc m) (u ∷ w ∷ xs) [] long same at = absurd (omega (arith, same))
  over-products other k (suc m) (u ∷ w ∷ xs) (x ∷ []) long same at = absurd (omega (arith, same))
  over-products other k (suc m) (u ∷ w ∷ xs) (x ∷ y ∷ ys) long same at =
      let here : k + 0 ≡ k = omega arith in
      let first = rw here at (at 0) in
      ap (over (term of (λ s. other s.index))) (pairs-first k u w xs)
      ∙ over-before (term of (λ s. other s.index)) k u w (pairs_from (k + 1) xs) (nothing (other k).left (other k).right)
      ∙ ap (λ n. of u w (other k).left (other k).right + n) (over-products other (k + 1) m xs ys (omega (arith, long)) (omega (arith, same)) later)
      ∙ ap (λ z. of u w z (other k).right + over_pairs of xs ys) first.0
      ∙ ap (λ z. of u w x z + over_pairs of xs ys) first.1
    where
      later : (j : ℕ) → ((other (k + 1 + j)).left ≡ get_or ys (2 * j) 0) × ((other (k + 1 + j)).right ≡ get_or ys (2 * j + 1) 0)
      later j =
          let there : k + suc j ≡ k + 1 + j = omega arith in
          let left : 2 * suc j ≡ suc (suc (2 * j)) = omega arith in
          let right : suc (suc (2 * j)) + 1 ≡ suc (suc (2 * j + 1)) = omega arith in
          rw (there, left, right) at (at (suc j))

-- ---- the three coefficients

module _ (p : ℕ) where
  pub no_difference : difference_mod p 0 0 ≡ 0
  no_difference = ap (λ n. n % p) (let e : 0 + (p - 0) ≡ p = omega arith in e) ∙ mod_self p

  pub constant-nothing : (x y : ℕ) → constant p 0 0 x y ≡ 0
  constant-nothing x y = let e : 0 * x ≡ 0 = omega arith in e

  pub linear-nothing : (x y : ℕ) → linear p 0 0 x y ≡ 0
  linear-nothing x y =
      ap (λ n. 0 * difference_mod p y x + x * n) no_difference
      ∙ (let e : 0 * difference_mod p y x + x * 0 ≡ 0 = omega arith in e)

  pub square-nothing : (x y : ℕ) → square p 0 0 x y ≡ 0
  square-nothing x y = ap (λ n. n * difference_mod p y x) no_difference ∙ (let e : 0 * difference_mod p y x ≡ 0 = omega arith in e)

  -- the coefficients are residues
  pub record IsReduced (c : Coefficients) : Type 0 where
    pub c0 : c.c0 < p
    pub c1 : c.c1 < p
    pub c2 : c.c2 < p

  abbrev pub made : ℕ → ℕ → ℕ → Coefficients
  made a b c = record { c0 = a; c1 = b; c2 = c }

  pub made-same : (a b c a' b' c' : ℕ) → a ≡ a' → b ≡ b' → c ≡ c' → made a b c ≡ made a' b' c'
  made-same a b c a' b' c' e f g = cc

  abbrev sums_over : (Neighbours → Neighbours) → Coefficients → List Neighbours → Coefficients
  sums_over other c ss =
      made ((c.c0 + over (term (constant p) other) ss) % p)
      ((c.c1 + over (term (linear p) other) ss) % p) ((c.c2 + over (term (square p) other) ss) % p)

  no_more : (c : ℕ) → c < p → c ≡ (c + 0) % p
  no_more c below = sym (ap (λ n. n % p) (let e : c + 0 ≡ c = omega arith in e) ∙ mod-eq_of_lt below)

  one_more : (c t rest : ℕ) → ((c + t) % p + rest) % p ≡ (c + (t + rest)) % p
  one_more c t rest = mod-add-mod (c + t) p rest ∙ ap (λ n. n % p) (let e : c + t + rest ≡ c + (t + rest) = omega arith in e)

  module _ (some : 0 < p) where
    pub with_product-reduced : (c : Coefficients) (s t : Neighbours) → IsReduced (with_product p c s t)
    with_product-reduced c s t = record { c0 = mod-lt _ some; c1 = mod-lt _ some; c2 = mod-lt _ some }

    -- the coefficients are sums over the pairs
    summed-is : (other : Neighbours → Neighbours) (c : Coefficients) (ss : List Neighbours) → IsReduced c → summed p other c ss ≡ sums_over other c ss
    summed-is other c [] h = made-same c.c0 c.c1 c.c2 _ _ _ (no_more c.c0 h.c0) (no_more c.c1 h.c1) (no_more c.c2 h.c2)
    summed-is other c (s ∷ ss) h =
        summed-is other (with_product p c s (other s)) ss (with_product-reduced c s (other s))
        ∙ made-same _ _ _ _ _ _ (one_more c.c0 (term (constant p) other s) (over (term (constant p) other) ss))
        (one_more c.c1 (term (linear p) other s) (over (term (linear p) other) ss))
        (one_more c.c2 (term (square p) other s) (over (term (square p) other) ss))

    zero-reduced : IsReduced zero_polynomial
    zero-reduced = record { c0 = some; c1 = some; c2 = some }

    from_zero : (a b : ℕ) → a ≡ b → (0 + a) % p ≡ b % p
    from_zero a b e = ap (λ n. n % p) (let f : 0 + a ≡ a = omega arith in f ∙ e)

    -- the round polynomial of a list with itself, and with another one
    pub squares-are : (m : ℕ) (xs : List ℕ) → length xs ≡ 2 * m → summed p (λ s. s) zero_polynomial (pairs_from 0 xs) ≡ polynomial_over p xs xs
    squares-are m xs long =
        summed-is (λ s. s) zero_polynomial (pairs_from 0 xs) zero-reduced
        ∙ made-same _ _ _ _ _ _ (from_zero _ _ (over-squares (constant p) constant-nothing 0 m xs long))
        (from_zero _ _ (over-squares (linear p) linear-nothing 0 m xs long))
        (from_zero _ _ (over-squares (square p) square-nothing 0 m xs long))

    products-by : (other : ℕ → Neighbours) (m : ℕ) (xs ys : List ℕ) → length xs ≡ 2 * m → length ys ≡ 2 * m
        → ((j : ℕ) → ((other (0 + j)).left ≡ get_or ys (2 * j) 0) × ((other (0 + j)).right ≡ get_or ys (2 * j + 1) 0))
        → summed p (λ s. other s.index) zero_polynomial (pairs_from 0 xs) ≡ polynomial_over p xs ys
    products-by other m xs ys long same at =
        summed-is (λ s. other s.index) zero_polynomial (pairs_from 0 xs) zero-reduced
        ∙ made-same _ _ _ _ _ _ (from_zero _ _ (over-products (constant p) constant-nothing other 0 m xs ys long same at))
        (from_zero _ _ (over-products (linear p) linear-nothing other 0 m xs ys long same at))
        (from_zero _ _ (over-products (square p) square-nothing other 0 m xs ys long same at))

    pub products-are : (m : ℕ) (xs ys : List ℕ) → length xs ≡ 2 * m → length ys ≡ 2 * m
        → summed p (λ s. pair_at (pairs_from 0 ys) s.index) zero_polynomial (pairs_from 0 xs) ≡ polynomial_over p xs ys
    products-are m xs ys long same =
        products-by (pair_at (pairs_from 0 ys)) m xs ys long same (λ j.
        (ap (λ (s : Neighbours). s.left) (pair_at-pairs 0 m j ys same), ap (λ (s : Neighbours). s.right) (pair_at-pairs 0 m j ys same)))

    -- from the entries of both
    pub products-of : (m : ℕ) (xs ys : List ℕ) (es fs : List (ℕ × ℕ)) (c : Coefficients) → length xs ≡ 2 * m → length ys ≡ 2 * m
        → es ≡ entries_from 0 xs → fs ≡ entries_from 0 ys → c ≡ summed p (λ s. pair_at (paired fs) s.index) zero_polynomial (paired es)
        → c ≡ polynomial_over p xs ys
    products-of m xs ys es fs c long same first second is =
        is ∙ ap (λ qs. summed p (λ s. pair_at (paired qs) s.index) zero_polynomial (paired es)) second
        ∙ ap (λ qs. summed p (λ s. pair_at (pairs_from 0 ys) s.index) zero_polynomial (paired qs)) first
        ∙ products-are m xs ys long same

    pub within-are : (m : ℕ) (xs ys : List ℕ) → length xs ≡ 2 * m → length ys ≡ 2 * m
        → summed p (λ s. pair_in ys s.index) zero_polynomial (pairs_from 0 xs) ≡ polynomial_over p xs ys
    within-are m xs ys long same =
        products-by (pair_in ys) m xs ys long same (λ j. let here : 0 + j ≡ j = omega arith in rw here (refl, refl))
