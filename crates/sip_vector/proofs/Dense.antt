-- What lists that are kept by their entries show: at a place, and by their filters.
use Rattle.std.proofs.Common.{◌≡◌, ◌≢◌, ℕ, zero, suc, ◌+◌, ◌<◌, ◌≤◌, Bool, true, false, List, [], ◌∷◌, length, get_or, set, replicate, filter, refl, sym, ap, ◌∙◌, inl, inr, arith}
use Rattle.std.specs.List.{enumerate_from}
use Rattle.std.proofs.lemmas.Bool.{cases_lt}
use Rattle.std.proofs.lemmas.List.{length-set, length-replicate, get_or-replicate, get_or_past, get_or-set_other, set-get_or}
use Rattle.sip_vector.specs.Sparse.{dense, IsSparse}

-- to write what is there changes nothing
pub set_same : {X : Type 0} (xs : List X) (k : ℕ) (x : X) → get_or xs k x ≡ x → set xs k x ≡ xs
set_same xs k x e = ap (set xs k) (sym e) ∙ set-get_or xs k x

-- a list of zeros has a zero at each place
get_or-zeros : {X : Type 0} (zero : X) (n i : ℕ) → get_or (replicate n zero) i zero ≡ zero
get_or-zeros z n i = elim (cases_lt i n) [
  | inl below ↦ get_or-replicate n i z z below
  | inr past ↦ let e = length-replicate n z in get_or_past (replicate n z) i z (omega arith)
]

-- entries that rise from a later index on rise from an earlier one on
pub IsSparse-earlier : {X : Type 0} (zero : X) (least later n : ℕ) (es : List (ℕ × X)) → least ≤ later → IsSparse zero later n es → IsSparse zero least n es
IsSparse-earlier z least later n [] le h = tt
IsSparse-earlier z least later n (e ∷ es) le h = (omega (arith, h.0), h.1, h.2, h.3)

pub length-dense : {X : Type 0} (zero : X) (n : ℕ) (es : List (ℕ × X)) → length (dense zero n es) ≡ n
unfolding dense
length-dense z n [] = length-replicate n z
length-dense z n (e ∷ es) = length-set (dense z n es) e.0 e.1 ∙ length-dense z n es

-- below the first index there are zeros
pub get_or-dense_below : {X : Type 0} (zero : X) (least n i : ℕ) (es : List (ℕ × X)) → IsSparse zero least n es → i < least → get_or (dense zero n es) i zero ≡ zero
unfolding dense
get_or-dense_below z least n i [] h lt = get_or-zeros z n i
get_or-dense_below z least n i (e ∷ es) h lt =
    get_or-set_other (dense z n es) e.0 i e.1 z (omega (arith, h.0)) ∙ get_or-dense_below z (suc e.0) n i es h.3 (omega (arith, h.0))

-- ---- the entries that are not zero

module _ {X : Type 0} (z : X) (q : X → Bool) (skips : q z ≡ false) where
  -- the elements that pass, each with its index
  abbrev passing : ℕ → List X → List (ℕ × X)
  passing i xs = filter (λ x. q x.1) (enumerate_from i xs)

  passing-zeros : (n i : ℕ) → passing i (replicate n z) ≡ []
  passing-zeros zero i = refl
  passing-zeros (suc n) i = rw skips (passing-zeros n (i + 1))

  -- an element that passes, written where only zeros come before it
  passing-set : (xs : List X) (i k : ℕ) (v : X) → q v ≡ true → k < length xs → ((j : ℕ) → j ≤ k → get_or xs j z ≡ z)
      → passing i (set xs k v) ≡ (i + k, v) ∷ passing i xs
  passing-set [] i k v passes below zeros = absurd (omega arith)
  passing-set (x ∷ xs) i zero v passes below zeros =
      let first : x ≡ z = zeros 0 (omega arith) in
      let place : i + 0 ≡ i = omega arith in
      rw (passes, first, skips, place) refl
  passing-set (x ∷ xs) i (suc k) v passes below zeros =
      let first : x ≡ z = zeros 0 (omega arith) in
      let place : i + suc k ≡ i + 1 + k = omega arith in
      rw (first, skips, place) (passing-set xs (i + 1) k v passes (omega arith) (λ j le. zeros (suc j) (omega arith)))

  -- the elements that are not zero are the entries
  pub passing-dense : (passes : (x : X) → x ≢ z → q x ≡ true) (least n : ℕ) (es : List (ℕ × X)) → IsSparse z least n es → passing 0 (dense z n es) ≡ es
  unfolding dense
  passing-dense passes least n [] h = passing-zeros n 0
  passing-dense passes least n (e ∷ es) h =
      let len = length-dense z n es in
      let place : 0 + e.0 ≡ e.0 = omega arith in
      passing-set (dense z n es) 0 e.0 e.1 (passes e.1 h.2) (omega (arith, h.1)) (λ j le. get_or-dense_below z (suc e.0) n j es h.3 (omega arith))
      ∙ rw (place, passing-dense passes (suc e.0) n es h.3) refl
