-- What the numbers of a slice are, once a place of it is written.
use Rattle.std.proofs.Common.{◌≡◌, ◌≢◌, ℕ, zero, suc, ◌+◌, ◌<◌, ◌≤◌, List, [], ◌∷◌, length, get_or, set, map, refl, sym, ◌∙◌, ap, subst, inl, inr, arith}
use Rattle.std.specs.List.{range_with_len}
use Rattle.std.proofs.lemmas.Bool.{cases_lt}
use Rattle.std.proofs.lemmas.List.{get_or-map, map-set, get_or-set_same, get_or-set_other, length-map}

-- ---- numbers

-- a place more is what it is to be
pub next : (P : ℕ → ℕ → Type 0) (ns : List ℕ) (i n : ℕ) → i < length ns → ((j : ℕ) → j < i → P j (get_or ns j 0)) → P i n
    → (j : ℕ) → j < i + 1 → P j (get_or (set ns i n) j 0)
next P ns i n lt before here j within = elim (cases_lt j i) [
  | inl low ↦ subst (P j) (sym (get_or-set_other ns i j n 0 (λ e. absurd (omega (arith, e, low))))) (before j low)
  | inr high ↦
      let same : i ≡ j = omega (arith, high, within) in
      subst (λ m. P m (get_or (set ns i n) m 0)) same (subst (P i) (sym (get_or-set_same ns i n 0 lt)) here)
]

-- a list whose numbers are those of a function
places_from : (f : ℕ → ℕ) (ns : List ℕ) (a n : ℕ) → length ns ≡ n → ((j : ℕ) → j < n → get_or ns j 0 ≡ f (a + j)) → ns ≡ map f (range_with_len a n)
places_from f [] a zero long is = refl
places_from f [] a (suc n) long is = absurd (omega (arith, long))
places_from f (x ∷ ns) a zero long is = absurd (omega (arith, long))
places_from f (x ∷ ns) a (suc n) long is =
    let first : x ≡ f a = is 0 (omega arith) ∙ ap f (let e : a + 0 ≡ a = omega arith in e) in
    ap (λ y. y ∷ ns) first
    ∙ ap (λ ys. f a ∷ ys) (places_from f ns (a + 1) n (omega (arith, long)) (λ j lt. is (suc j) (omega (arith, lt)) ∙ ap f (let e : a + suc j ≡ a + 1 + j = omega arith in e)))

pub places : (f : ℕ → ℕ) (ns : List ℕ) (n : ℕ) → length ns ≡ n → ((j : ℕ) → j < n → get_or ns j 0 ≡ f j) → ns ≡ map f (range_with_len 0 n)
places f ns n long is = places_from f ns 0 n long (λ j lt. is j lt ∙ ap f (let e : j ≡ 0 + j = omega arith in e))

-- ---- the numbers of values

module _ {F : Type 0} (number : F → ℕ) where
  abbrev pub at : List F → ℕ → ℕ
  at xs i = get_or (map number xs) i 0

  -- from a place on, the numbers are those of another slice
  abbrev pub AreSameFrom : ℕ → List F → List F → Type 0
  AreSameFrom i xs ys = (j : ℕ) → i ≤ j → at xs j ≡ at ys j

  pub read : (xs : List F) (i : ℕ) (x : F) → i < length xs → x ≡ get_or xs i x → number x ≡ at xs i
  read xs i x lt is = ap number is ∙ sym (get_or-map number xs i x 0 lt)

  within : (xs : List F) (i : ℕ) → i < length xs → i < length (map number xs)
  within xs i lt = omega (arith, lt, length-map xs number)

  pub wrote : (xs : List F) (i : ℕ) (v : F) → i < length xs → at (set xs i v) i ≡ number v
  wrote xs i v lt = ap (λ ns. get_or ns i 0) (map-set number xs i v) ∙ get_or-set_same (map number xs) i (number v) 0 (within xs i lt)

  pub kept : (xs : List F) (i j : ℕ) (v : F) → j ≢ i → at (set xs i v) j ≡ at xs j
  kept xs i j v other =
      ap (λ ns. get_or ns j 0) (map-set number xs i v) ∙ get_or-set_other (map number xs) i j (number v) 0 other

  pub value-next : (P : ℕ → ℕ → Type 0) (xs : List F) (i : ℕ) (v : F) → i < length xs → ((j : ℕ) → j < i → P j (at xs j)) → P i (number v)
      → (j : ℕ) → j < i + 1 → P j (at (set xs i v) j)
  value-next P xs i v lt before here j le =
      subst (λ ns. P j (get_or ns j 0)) (sym (map-set number xs i v)) (next P (map number xs) i (number v) (within xs i lt) before here j le)

  pub values-behind : (ys xs : List F) (i : ℕ) (v : F) → AreSameFrom i xs ys → AreSameFrom (i + 1) (set xs i v) ys
  values-behind ys xs i v same j le =
      kept xs i j v (λ e. absurd (omega (arith, e, le))) ∙ same j (omega (arith, le))

  pub below : (p : ℕ) → 0 < p → ((x : F) → number x < p) → (xs : List F) (i : ℕ) → at xs i < p
  below p some less [] i = some
  below p some less (x ∷ xs) zero = less x
  below p some less (x ∷ xs) (suc i) = below p some less xs i
