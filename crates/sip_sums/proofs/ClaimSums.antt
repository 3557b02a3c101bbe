-- Sums over the entries of a vector that are not 0 are those over all its numbers.
use Rattle.std.proofs.Common.{◌≡◌, ℕ, zero, suc, ◌+◌, ◌<◌, ◌≤◌, Bool, true, false, not, cond, List, [], ◌∷◌, length, get_or, map, filter, sum_by, ℤ, pos, ◌+ℤ◌, ◌*ℤ◌, nat_abs, refl, sym, ap, ◌∙◌, inl, inr, arith}
use Rattle.std.specs.List.{enumerate_from, range_with_len}
use Rattle.std.proofs.lemmas.Bool.{cases_Bool, eq-eqb, ne_eqb}
use Rattle.std.proofs.lemmas.Int.{ints}
use Rattle.std.proofs.lemmas.List.Sums.{sum_by-cons}
use Rattle.sip_vector.specs.declared.update.Entry.{Entry}
use Rattle.sip_vector.specs.Answers.{is_within, is_zero}
use Rattle.sip_vector.specs.Streams.{int_sum}
use Rattle.sip_vector.specs.inside.Gathered.{abs_sum}
use Rattle.sip_vector.proofs.Filters.{as_entry}
use Rattle.sip_vector.proofs.Kept.{is_zero_tells}
use Rattle.sip_sums.specs.AcceptsSum.{total}
use Rattle.sip_sums.specs.Claims.{value_in, value_within, squares_sum, products_sum, range_sum, RisesFrom}

-- the entries that are not 0 of numbers whose first index is i
abbrev pub kept : ℕ → List ℤ → List Entry
kept i xs = filter (λ e. not (is_zero e.value)) (map as_entry (enumerate_from i xs))

abbrev pub entry : ℕ → ℤ → Entry
entry i x = record { index = i; value = x }

kept-first : (i : ℕ) (x : ℤ) (xs : List ℤ) → kept i (x ∷ xs) ≡ cond (is_zero x) (kept (i + 1) xs) (entry i x ∷ kept (i + 1) xs)
kept-first i x xs = elim (cases_Bool (is_zero x)) [
  | inl t ↦ rw t refl
  | inr t ↦ rw t refl
]

abbrev pub sum_of : (Entry → ℤ) → List Entry → ℤ
sum_of f es = int_sum (map f es)

-- a number counts whether it is 0 or not
pub sum-first : (f : Entry → ℤ) → ((i : ℕ) → f (entry i (pos 0)) ≡ pos 0) → (i : ℕ) (x : ℤ) (xs : List ℤ)
    → sum_of f (kept i (x ∷ xs)) ≡ f (entry i x) +ℤ sum_of f (kept (i + 1) xs)
sum-first f nothing i x xs = ap (sum_of f) (kept-first i x xs) ∙ elim (is_zero_tells x) [
  | inl t ↦ rw (t.0, t.1, nothing i) (omega (arith, ints))
  | inr t ↦ rw t.0 refl
]

zero_times : (z : ℤ) → pos 0 *ℤ z ≡ pos 0
zero_times z = omega (arith, ints)

pub squares-total : (i : ℕ) (xs : List ℤ) → squares_sum (kept i xs) ≡ total xs xs
squares-total i [] = refl
squares-total i (x ∷ xs) =
    sum-first (λ e. e.value *ℤ e.value) (λ j. refl) i x xs ∙ ap (λ z. x *ℤ x +ℤ z) (squares-total (i + 1) xs)

products-by : (g : ℕ → ℤ) (i : ℕ) (xs ys : List ℤ) → length ys ≡ length xs → ((j : ℕ) → g (i + j) ≡ get_or ys j (pos 0))
    → sum_of (λ e. e.value *ℤ g e.index) (kept i xs) ≡ total xs ys
products-by g i [] ys same at = refl
products-by g i (x ∷ xs) [] same at = absurd (omega (arith, same))
products-by g i (x ∷ xs) (y ∷ ys) same at =
    let here : i + 0 ≡ i = omega arith in
    let first : g i ≡ y = rw here at (at 0) in
    sum-first (λ e. e.value *ℤ g e.index) (λ j. zero_times (g j)) i x xs
    ∙ ap (λ z. x *ℤ g i +ℤ z) (products-by g (i + 1) xs ys (omega (arith, same)) (λ j. let there : i + 1 + j ≡ i + suc j = omega arith in rw there (at (suc j))))
    ∙ ap (λ z. x *ℤ z +ℤ total xs ys) first

-- ---- the value at an index

pub rises-later : (least later : ℕ) (es : List Entry) → least ≤ later → RisesFrom later es → RisesFrom least es
rises-later least later [] le h = tt
rises-later least later (e ∷ es) le h = (omega (arith, le, h.0), h.1)

pub kept-rise : (i : ℕ) (xs : List ℤ) → RisesFrom i (kept i xs)
kept-rise i [] = tt
kept-rise i (x ∷ xs) = elim (cases_Bool (is_zero x)) [
  | inl t ↦ rw t (rises-later i (i + 1) (kept (i + 1) xs) (omega arith) (kept-rise (i + 1) xs))
  | inr t ↦ rw t (omega arith, rises-later (suc i) (i + 1) (kept (i + 1) xs) (omega arith) (kept-rise (i + 1) xs))
]

pub value_in-earlier : (least i : ℕ) (es : List Entry) → RisesFrom least es → i < least → value_in es i ≡ pos 0
value_in-earlier least i [] h lt = refl
value_in-earlier least i (e ∷ es) h lt =
    rw (ne_eqb e.index i (λ same. absurd (omega (arith, same, h.0, lt)))) (value_in-earlier (suc e.index) i es h.1 (omega (arith, h.0, lt)))

pub value_in-here : (e : Entry) (es : List Entry) (i : ℕ) → e.index ≡ i → value_in (e ∷ es) i ≡ e.value
value_in-here e es i same = rw (eq-eqb e.index i same) refl

pub value_in-later : (e : Entry) (es : List Entry) (i : ℕ) → (e.index ≡ i → ⊥) → value_in (e ∷ es) i ≡ value_in es i
value_in-later e es i other = rw (ne_eqb e.index i other) refl

value-at : (i j : ℕ) (xs : List ℤ) → value_in (kept i xs) (i + j) ≡ get_or xs j (pos 0)
value-at i j [] = refl
value-at i zero (x ∷ xs) =
    let here : i + 0 ≡ i = omega arith in
    let later = kept-rise (i + 1) xs in
    rw here (ap (λ es. value_in es i) (kept-first i x xs) ∙ elim (is_zero_tells x) [
      | inl t ↦ rw (t.0, t.1) (value_in-earlier (i + 1) i (kept (i + 1) xs) later (omega arith))
      | inr t ↦ rw t.0 (value_in-here (entry i x) (kept (i + 1) xs) i refl)
    ])
value-at i (suc j) (x ∷ xs) =
    let there : i + suc j ≡ i + 1 + j = omega arith in
    rw there (ap (λ es. value_in es (i + 1 + j)) (kept-first i x xs) ∙ elim (cases_Bool (is_zero x)) [
      | inl t ↦ rw t (value-at (i + 1) j xs)
      | inr t ↦ rw t (value_in-later (entry i x) (kept (i + 1) xs) (i + 1 + j) (λ same. absurd (omega (arith, same))) ∙ value-at (i + 1) j xs)
    ])

pub products-total : (i : ℕ) (xs ys : List ℤ) → length ys ≡ length xs → products_sum (kept i ys) (kept i xs) ≡ total xs ys
products-total i xs ys same = products-by (value_in (kept i ys)) i xs ys same (λ j. value-at i j ys)

-- ---- the entries of a range

abbrev within_one : ℕ → ℕ → ℕ → ℤ
within_one lo hi i = cond (is_within lo hi i) (pos 1) (pos 0)

within-times : (b : Bool) (x : ℤ) → cond b x (pos 0) ≡ x *ℤ cond b (pos 1) (pos 0)
within-times true x = omega (arith, ints)
within-times false x = omega (arith, ints)

pub range-total : (lo hi i : ℕ) (xs : List ℤ) → range_sum lo hi (kept i xs) ≡ total xs (map (within_one lo hi) (range_with_len i (length xs)))
range-total lo hi i [] = refl
range-total lo hi i (x ∷ xs) =
    sum-first (value_within lo hi) (λ j. nothing (is_within lo hi j)) i x xs
    ∙ ap (λ z. value_within lo hi (entry i x) +ℤ z) (range-total lo hi (i + 1) xs)
    ∙ ap (λ z. z +ℤ total xs (map (within_one lo hi) (range_with_len (i + 1) (length xs)))) (within-times (is_within lo hi i) x)
  where
    nothing : (b : Bool) → cond b (pos 0) (pos 0) ≡ pos 0
    nothing true = refl
    nothing false = refl

-- ---- the weight

pub kept-light : (i : ℕ) (xs : List ℤ) → abs_sum (kept i xs) ≡ sum_by nat_abs xs
kept-light i [] = refl
kept-light i (x ∷ xs) =
    ap abs_sum (kept-first i x xs)
    ∙ elim (is_zero_tells x) [
      | inl t ↦ rw (t.0, t.1) (kept-light (i + 1) xs ∙ (let e : sum_by nat_abs xs ≡ 0 + sum_by nat_abs xs = omega arith in e))
      | inr t ↦ rw t.0 (ap (λ n. nat_abs x + n) (kept-light (i + 1) xs))
    ]
    ∙ sym (sum_by-cons nat_abs x xs)
