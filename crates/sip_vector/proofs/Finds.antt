-- Where lists of entries add something.
use Rattle.std.proofs.Common.{◌≡◌, ◌≢◌, ℕ, zero, suc, ◌+◌, ◌<◌, ◌≤◌, Bool, true, false, not, ◌&&◌, ltb, leb, filter, fold, drop, List, [], ◌∷◌, length, get_or, take, map, Option, Some, None, slice_get, ℤ, pos, ◌+ℤ◌, nat_abs, refl, sym, ap, ◌∙◌, inl, inr, arith}
use Rattle.std.proofs.lemmas.Bool.{cases_lt}
use Rattle.std.proofs.lemmas.Bool.Decides.{eqb_tells, leb_tells, nat_tests}
use Rattle.std.proofs.lemmas.Int.{ints}
use Rattle.std.proofs.lemmas.List.{take_more}
use Rattle.std.proofs.lemmas.List.Sorted.{IsPartitionedBy-ltb}
use Rattle.std.specs.List.Sorted.{IsPartitionedBy, IsPartitionPoint, IsNonDecreasingBy}
use Rattle.sip_vector.specs.declared.update.Entry.{Entry}
use Rattle.sip_vector.specs.Sparse.{IsSparse}
use Rattle.sip_vector.specs.inside.Gathered.{as_pair, value_at, sum_at, abs_sum, IsRising, IsBare, IsFirstFrom}
use Rattle.sip_vector.proofs.Filters.{filter-both}
use Rattle.sip_vector.proofs.Merges.{sum_at-append, abs_sum-append, IsRising-sparse}

-- an entry that is there, whatever stands for one that is not
pub get_or-any : (es : List Entry) (i : ℕ) (d e : Entry) → i < length es
    → get_or es i d ≡ get_or es i e
get_or-any [] i d e lt = absurd (omega (arith, lt))
get_or-any (x ∷ xs) zero d e lt = refl
get_or-any (x ∷ xs) (suc i) d e lt = get_or-any xs i d e (omega (arith, lt))

pub value_at-other : (e : Entry) (k : ℕ) → e.index ≢ k → value_at e k ≡ pos 0
value_at-other e k other = elim (eqb_tells e.index k) [ inl t ↦ absurd (other t.1) | inr t ↦ rw t.0 refl ]

pub value_at-here : (e : Entry) (k : ℕ) → e.index ≡ k → value_at e k ≡ e.value
value_at-here e k same = elim (eqb_tells e.index k) [ inl t ↦ rw t.0 refl | inr t ↦ absurd (t.1 same) ]

pub both_zero : (a b : ℤ) → a ≡ pos 0 → b ≡ pos 0 → a +ℤ b ≡ pos 0
both_zero a b e f = omega (arith, ints, e, f)

only_first : (a b v : ℤ) → a ≡ v → b ≡ pos 0 → a +ℤ b ≡ v
only_first a b v e f = omega (arith, ints, e, f)

only_second : (a b v : ℤ) → a ≡ pos 0 → b ≡ v → a +ℤ b ≡ v
only_second a b v e f = omega (arith, ints, e, f)

-- ---- rising lists

pub sum_at-below : (least n k : ℕ) (es : List Entry) → IsSparse (pos 0) least n (map as_pair es) → k < least → sum_at es k ≡ pos 0
sum_at-below least n k [] h lt = refl
sum_at-below least n k (e ∷ es) h lt =
    both_zero _ _ (value_at-other e k (λ same. absurd (omega (arith, same, h.0)))) (sum_at-below (suc e.index) n k es h.3 (omega (arith, h.0)))

least-le : (es : List Entry) (least n j : ℕ) (d : Entry) → IsRising least n es → j < length es → least ≤ (get_or es j d).index
least-le [] least n j d h below = absurd (omega arith)
least-le (e ∷ es) least n zero d h below = h.0
least-le (e ∷ es) least n (suc j) d h below = let tail = least-le es e.index n j d h.2 (omega arith) in omega (arith, h.0, tail)

rising : (es : List Entry) (least n i j : ℕ) (d : Entry) → IsRising least n es → i ≤ j → j < length es → (get_or es i d).index ≤ (get_or es j d).index
rising [] least n i j d h le below = absurd (omega arith)
rising (e ∷ es) least n zero zero d h le below = omega arith
rising (e ∷ es) least n zero (suc j) d h le below = least-le es e.index n j d h.2 (omega arith)
rising (e ∷ es) least n (suc i) zero d h le below = absurd (omega arith)
rising (e ∷ es) least n (suc i) (suc j) d h le below = rising es e.index n i j d h.2 (omega arith) (omega arith)

pub entries-partitioned : (es : List Entry) (n bound : ℕ) → IsSparse (pos 0) 0 n (map as_pair es) → IsPartitionedBy (λ e. ltb e.index bound) es
entries-partitioned es n bound h = IsPartitionedBy-ltb (λ (e : Entry). e.index) es bound (λ i j d le below. rising es 0 n i j d (IsRising-sparse 0 n es h) le below)

pub not_below : (a b : ℕ) → ltb a b ≡ false → b ≤ a
not_below a b e = elim (leb_tells (suc a) b) [ inl t ↦ (let f : true ≡ false = sym t.0 ∙ e in cc) | inr t ↦ omega (arith, t.1) ]

pub is_below : (a b : ℕ) → ltb a b ≡ true → a < b
is_below a b e = elim (leb_tells (suc a) b) [ inl t ↦ omega (arith, t.1) | inr t ↦ (let f : true ≡ false = sym e ∙ t.0 in cc) ]

first-later : (n from : ℕ) (e : Entry) (es : List Entry) (o : Option Entry) → e.index < from → IsFirstFrom n es from o → IsFirstFrom n (e ∷ es) from o
first-later n from e es None lt h = λ k le. both_zero _ _ (value_at-other e k (λ same. absurd (omega arith))) (h k le)
first-later n from e es (Some x) lt h = (
  h.0,
  h.1,
  h.2,
  only_second _ _ x.value (value_at-other e x.index (λ same. absurd (omega (arith, same, h.0)))) h.3,
  λ k le below. both_zero _ _ (value_at-other e k (λ same. absurd (omega arith))) (h.4 k le below),
)

-- the entry at the partition point is the first one from there
pub first-is : (es : List Entry) (least n from at : ℕ) → IsSparse (pos 0) least n (map as_pair es) → IsPartitionPoint (λ e. ltb e.index from ≡ true) (λ e. ltb e.index from ≡ false) es at
    → IsFirstFrom n es from (slice_get es at)
first-is [] least n from zero h parts = λ k le. refl
first-is [] least n from (suc at) h parts = λ k le. refl
first-is (e ∷ es) least n from zero h parts =
    let here : ltb e.index from ≡ false = parts.1 0 e (omega arith) (omega arith) in (
      not_below e.index from here,
      h.1,
      h.2,
      only_first _ _ e.value (value_at-here e e.index refl) (sum_at-below (suc e.index) n e.index es h.3 (omega arith)),
      λ k le below. both_zero _ _ (value_at-other e k (λ same. absurd (omega arith))) (sum_at-below (suc e.index) n k es h.3 (omega arith)),
    )
first-is (e ∷ es) least n from (suc at) h parts =
    let here : ltb e.index from ≡ true = parts.0 0 e (omega arith) (omega arith) in
    first-later n from e es (slice_get es at) (is_below e.index from here)
    (first-is es (suc e.index) n from at h.3 (λ k d le lt. parts.0 (suc k) d (omega arith) (omega arith), λ k d le lt. parts.1 (suc k) d (omega arith) (omega arith)))

-- ---- lists in any order, entry by entry

pub abs_sum-take : (i : ℕ) (es : List Entry) → abs_sum (take i es) ≤ abs_sum es
abs_sum-take zero es = omega arith
abs_sum-take (suc i) [] = omega arith
abs_sum-take (suc i) (e ∷ es) = omega (arith, abs_sum-take i es)

module _ (es : List Entry) (i : ℕ) (d : Entry) (below : i < length es) where
  pub sum_at-take_more : (k : ℕ) → sum_at (take (i + 1) es) k ≡ sum_at (take i es) k +ℤ value_at (get_or es i d) k
  sum_at-take_more k =
      ap (λ fs. sum_at fs k) (take_more es i d below) ∙ sum_at-append (take i es) (get_or es i d ∷ []) k ∙ (let z : value_at (get_or es i d) k +ℤ pos 0 ≡ value_at (get_or es i d) k = omega (arith, ints) in ap (λ z. sum_at (take i es) k +ℤ z) z)

  pub abs_sum-take_more : abs_sum (take (i + 1) es) ≡ abs_sum (take i es) + nat_abs (get_or es i d).value
  abs_sum-take_more = ap abs_sum (take_more es i d below) ∙ abs_sum-append (take i es) (get_or es i d ∷ []) ∙ (let z : nat_abs (get_or es i d).value + 0 ≡ nat_abs (get_or es i d).value = omega arith in ap (λ n. abs_sum (take i es) + n) z)

  pub abs_sum-at : abs_sum (take i es) + nat_abs (get_or es i d).value ≤ abs_sum es
  abs_sum-at = omega (arith, abs_sum-take_more, abs_sum-take (i + 1) es)

  pub bare-more : (from next : ℕ) → IsBare (take i es) from next → (from ≤ (get_or es i d).index → next ≤ (get_or es i d).index) → IsBare (take (i + 1) es) from next
  bare-more from next bare outside k le lt =
      sum_at-take_more k ∙ both_zero _ _ (bare k le lt) (value_at-other (get_or es i d) k (λ same. absurd (by_place same)))
    where
      by_place : (get_or es i d).index ≡ k → ⊥
      by_place same = elim (cases_lt (get_or es i d).index from) [ inl t ↦ omega (arith, t, same, le) | inr t ↦ let o = outside (omega (arith, t)) in omega (arith, o, same, lt) ]

pub bare-less : (es : List Entry) (from to to2 : ℕ) → IsBare es from to → to2 ≤ to → IsBare es from to2
bare-less es from to to2 bare le k above below = bare k above (omega arith)

-- ---- the entries between two indices

pub never-falls : (es : List Entry) (n : ℕ) → IsSparse (pos 0) 0 n (map as_pair es) → IsNonDecreasingBy (λ (e : Entry). e.index) es
never-falls es n h i j d le below = rising es 0 n i j d (IsRising-sparse 0 n es h) le below

pub filter-taken : (q : Entry → Bool) (es : List Entry) (at : ℕ) → IsPartitionPoint (λ e. q e ≡ true) (λ e. q e ≡ false) es at → filter q es ≡ take at es
filter-taken q [] zero parts = refl
filter-taken q [] (suc at) parts = refl
filter-taken q (e ∷ es) zero parts =
    let here : q e ≡ false = parts.1 0 e (omega arith) (omega arith) in
    rw here (filter-taken q es zero (λ k d le lt. absurd (omega arith), λ k d le lt. parts.1 (suc k) d (omega arith) (omega arith)))
filter-taken q (e ∷ es) (suc at) parts =
    let here : q e ≡ true = parts.0 0 e (omega arith) (omega arith) in
    rw here (ap (λ fs. e ∷ fs) (filter-taken q es at (λ k d le lt. parts.0 (suc k) d (omega arith) (omega arith), λ k d le lt. parts.1 (suc k) d (omega arith) (omega arith))))

pub filter-dropped : (p q : Entry → Bool) → ((e : Entry) → p e ≡ not (q e)) → (es : List Entry) (at : ℕ) → IsPartitionPoint (λ e. q e ≡ true) (λ e. q e ≡ false) es at → filter p es ≡ drop at es
filter-dropped p q other [] zero parts = refl
filter-dropped p q other [] (suc at) parts = refl
filter-dropped p q other (e ∷ es) zero parts =
    let here : p e ≡ true = other e ∙ ap not (parts.1 0 e (omega arith) (omega arith)) in
    rw here (ap (λ fs. e ∷ fs) (filter-dropped p q other es zero (λ k d le lt. absurd (omega arith), λ k d le lt. parts.1 (suc k) d (omega arith) (omega arith))))
filter-dropped p q other (e ∷ es) (suc at) parts =
    let here : p e ≡ false = other e ∙ ap not (parts.0 0 e (omega arith) (omega arith)) in
    rw here (filter-dropped p q other es at (λ k d le lt. parts.0 (suc k) d (omega arith) (omega arith), λ k d le lt. parts.1 (suc k) d (omega arith) (omega arith)))

from_below : (lo : ℕ) (e : Entry) → leb lo e.index ≡ not (ltb e.index lo)
from_below lo e = grind (arith, nat_tests)

pub between-is : (es : List Entry) (lo hi to from : ℕ)
    → IsPartitionPoint (λ (e : Entry). leb e.index hi ≡ true) (λ e. leb e.index hi ≡ false) es to
    → IsPartitionPoint (λ (e : Entry). ltb e.index lo ≡ true) (λ e. ltb e.index lo ≡ false) (take to es) from
    → drop from (take to es) ≡ filter (λ (e : Entry). leb lo e.index && leb e.index hi) es
between-is es lo hi to from high low =
    sym (filter-both (λ (e : Entry). leb lo e.index) (λ (e : Entry). leb e.index hi) es
    ∙ ap (filter (λ (e : Entry). leb lo e.index)) (filter-taken (λ (e : Entry). leb e.index hi) es to high)
    ∙ filter-dropped (λ (e : Entry). leb lo e.index) (λ (e : Entry). ltb e.index lo) (from_below lo) (take to es) from low)

-- ---- the last of some entries

-- the last entry of a list that is not empty, whatever came before
pub last-of-some : (o : Option Entry) (es : List Entry) (n : ℕ) (d : Entry) → length es ≡ suc n → fold (λ (before : Option Entry) (e : Entry). Some e) o es ≡ Some (get_or es n d)
last-of-some o [] n d is = cc
last-of-some o (e ∷ []) zero d is = refl
last-of-some o (e ∷ []) (suc n) d is = absurd (omega (arith, is))
last-of-some o (e ∷ f ∷ es) zero d is = absurd (omega (arith, is))
last-of-some o (e ∷ f ∷ es) (suc n) d is = last-of-some (Some e) (f ∷ es) n d (omega (arith, is))
