-- Sums of entries at an index, and how a list grows at its end.
use Rattle.std.proofs.Common.{◌≡◌, ◌≢◌, ℕ, suc, ◌+◌, ◌<◌, ◌≤◌, List, [], ◌∷◌, ◌++◌, length, get_or, map, sum_by, All, ℤ, pos, negsuc, ◌+ℤ◌, nat_abs, refl, sym, ap, subst, ◌∙◌, inl, inr, arith}
use Rattle.std.proofs.lemmas.Bool.Decides.{eqb_tells}
use Rattle.std.proofs.lemmas.Int.{ints}
use Rattle.std.proofs.lemmas.List.Elements.{All-head, All-tail}
use Rattle.std.proofs.lemmas.List.Sorted.{sum_by-IsPermutation, All-permutation}
use Rattle.std.proofs.lemmas.List.Sums.{sum_by-cons}
use Rattle.std.specs.List.Sorted.{IsPermutation, IsNonDecreasingBy}
use Rattle.sip_vector.specs.declared.update.Entry.{Entry}
use Rattle.sip_vector.specs.Sparse.{IsSparse}
use Rattle.sip_vector.specs.inside.Gathered.{as_pair, value_at, sum_at, abs_sum, IsRising, with_last, IsTaken, IsMerged}
use Rattle.sip_vector.proofs.Kept.{is_zero_tells}
use Rattle.sip_vector.proofs.Sums.{nat_abs-add-le}

pub sum_at-append : (es fs : List Entry) (k : ℕ) → sum_at (es ++ fs) k ≡ sum_at es k +ℤ sum_at fs k
sum_at-append [] fs k = omega (arith, ints)
sum_at-append (e ∷ es) fs k = omega (arith, ints, sum_at-append es fs k)

pub abs_sum-append : (es fs : List Entry) → abs_sum (es ++ fs) ≡ abs_sum es + abs_sum fs
abs_sum-append [] fs = omega arith
abs_sum-append (e ∷ es) fs = omega (arith, abs_sum-append es fs)

-- an entry of 0 adds nothing
value_at-zero : (e : Entry) (k : ℕ) → e.value ≡ pos 0 → value_at e k ≡ pos 0
value_at-zero e k none = elim (eqb_tells e.index k) [ inl t ↦ rw t.0 none | inr t ↦ rw t.0 refl ]

pub sum_at-with_last : (es : List Entry) (e : Entry) (k : ℕ) → sum_at (with_last es e) k ≡ sum_at es k +ℤ value_at e k
sum_at-with_last es e k = elim (is_zero_tells e.value) [
  | inl t ↦ rw (t.0, value_at-zero e k t.1) (omega (arith, ints))
  | inr t ↦ rw t.0 (omega (arith, ints, sum_at-append es (e ∷ []) k))
]

pub abs_sum-with_last : (es : List Entry) (e : Entry) → abs_sum (with_last es e) ≡ abs_sum es + nat_abs e.value
abs_sum-with_last es e = elim (is_zero_tells e.value) [
  | inl t ↦ rw (t.0, t.1) (omega arith)
  | inr t ↦ rw t.0 (omega (arith, abs_sum-append es (e ∷ [])))
]

-- entries below m are below n
pub IsSparse-higher : (least m n : ℕ) (es : List Entry) → m ≤ n → IsSparse (pos 0) least m (map as_pair es) → IsSparse (pos 0) least n (map as_pair es)
IsSparse-higher least m n [] le h = tt
IsSparse-higher least m n (e ∷ es) le h = (h.0, omega (arith, h.1), h.2, IsSparse-higher (suc e.index) m n es le h.3)

IsSparse-push : (least m n : ℕ) (es : List Entry) (e : Entry) → IsSparse (pos 0) least m (map as_pair es) → least ≤ e.index → m ≤ e.index → e.index < n → e.value ≢ pos 0
    → IsSparse (pos 0) least n (map as_pair (es ++ e ∷ []))
IsSparse-push least m n [] e h le above below some = (le, below, some, tt)
IsSparse-push least m n (x ∷ es) e h le above below some =
    (h.0, omega (arith, h.1), h.2, IsSparse-push (suc x.index) m n es e h.3 (omega (arith, h.1)) above below some)

pub IsSparse-with_last : (n : ℕ) (es : List Entry) (e : Entry) → IsSparse (pos 0) 0 e.index (map as_pair es) → e.index < n → IsSparse (pos 0) 0 n (map as_pair (with_last es e))
IsSparse-with_last n es e h below = elim (is_zero_tells e.value) [
  | inl t ↦ rw t.0 (IsSparse-higher 0 e.index n es (omega arith) h)
  | inr t ↦ rw t.0 (IsSparse-push 0 e.index n es e h (omega arith) (omega arith) below t.1)
]

-- two values at one index add up
pub value_at-both : (i : ℕ) (a b : ℤ) (k : ℕ) → value_at (record { index = i; value = a +ℤ b }) k ≡ value_at (record { index = i; value = a }) k +ℤ value_at (record { index = i; value = b }) k
value_at-both i a b k = elim (eqb_tells i k) [ inl t ↦ rw t.0 refl | inr t ↦ rw t.0 (omega (arith, ints)) ]

-- ---- the merge of two lists: so far `out` and `last` have what was taken from them

pub record IsMerging (list0 added0 out list added : List Entry) (last : Entry) : Type 0 where
  pub sums : (k : ℕ) → sum_at out k +ℤ (value_at last k +ℤ (sum_at list k +ℤ sum_at added k)) ≡ sum_at list0 k +ℤ sum_at added0 k
  pub light : abs_sum out + nat_abs last.value + (abs_sum list + abs_sum added) ≤ abs_sum list0 + abs_sum added0
  pub rising : (n : ℕ) → 0 < n → IsRising 0 n list0 → IsRising 0 n added0
      → (last.index < n) × IsRising last.index n list × IsRising last.index n added × IsSparse (pos 0) 0 last.index (map as_pair out)

pub merging-init : (list added : List Entry) → IsMerging list added [] list added (record { index = 0; value = pos 0 })
merging-init list added = record {
  sums = λ k. rw (value_at-zero (record { index = 0; value = pos 0 }) k refl) (omega (arith, ints));
  light = omega arith;
  rising = λ n some list_rises added_rises. (some, list_rises, added_rises, tt);
}

module _ (list0 added0 out list added : List Entry) (last e : Entry) (list_left added_left : List Entry)
    (so_far : IsMerging list0 added0 out list added last) (taken : IsTaken list added e list_left added_left) where
  -- the values stay light
  pub merging-light : nat_abs last.value + nat_abs e.value ≤ abs_sum list0 + abs_sum added0
  merging-light = omega (arith, so_far.light, taken.light)

  pub merging-same : e.index ≡ last.index → IsMerging list0 added0 out list_left added_left (record { index = last.index; value = last.value +ℤ e.value })
  merging-same same = record {
    sums = λ k.
        let here : value_at e k ≡ value_at (record { index = last.index; value = e.value }) k = ap (λ i. value_at (record { index = i; value = e.value }) k) same in
        omega (arith, ints, so_far.sums k, taken.sums k, here, value_at-both last.index last.value e.value k);
    light = omega (arith, so_far.light, taken.light, nat_abs-add-le last.value e.value);
    rising = λ n some list_rises added_rises.
        let h = so_far.rising n some list_rises added_rises in
        let t = taken.rising last.index n h.1 h.2 in
        let left : IsRising last.index n list_left = subst (λ i. IsRising i n list_left) same t.2 in
        let rest : IsRising last.index n added_left = subst (λ i. IsRising i n added_left) same t.3 in
        (h.0, left, rest, h.3);
  }

  pub merging-next : e.index ≢ last.index → IsMerging list0 added0 (with_last out last) list_left added_left e
  merging-next other = record {
    sums = λ k. omega (arith, ints, so_far.sums k, taken.sums k, sum_at-with_last out last k);
    light = omega (arith, so_far.light, taken.light, abs_sum-with_last out last);
    rising = λ n some list_rises added_rises.
        let h = so_far.rising n some list_rises added_rises in
        let t = taken.rising last.index n h.1 h.2 in
        (t.1, t.2, t.3, IsSparse-with_last e.index out last h.3 (omega (arith, t.0, other)));
  }

  pub merging-shorter : length list_left + length added_left < length list + length added
  merging-shorter = omega (arith, taken.shorter)

module _ (list0 added0 out : List Entry) (last : Entry) (so_far : IsMerging list0 added0 out [] [] last) where
  pub merging-done : (n : ℕ) → 0 < n → IsRising 0 n list0 → IsRising 0 n added0 → IsMerged n list0 added0 (with_last out last)
  merging-done n some list_rises added_rises =
      let h = so_far.rising n some list_rises added_rises in
      record {
        sparse = IsSparse-with_last n out last h.3 h.0;
        sums = λ k. omega (arith, ints, so_far.sums k, sum_at-with_last out last k);
      }

  pub merging-done_light : abs_sum (with_last out last) ≤ abs_sum list0 + abs_sum added0
  merging-done_light = omega (arith, so_far.light, abs_sum-with_last out last)

-- ---- the order of entries makes no difference

abbrev plus_part : ℤ → ℕ
plus_part (pos n) = n
plus_part (negsuc n) = 0

abbrev minus_part : ℤ → ℕ
minus_part (pos n) = 0
minus_part (negsuc n) = suc n

parts : (z : ℤ) → z +ℤ pos (minus_part z) ≡ pos (plus_part z)
parts (pos n) = omega (arith, ints)
parts (negsuc n) = omega (arith, ints)

parts-more : (x s : ℤ) (a b c d : ℕ) → x +ℤ pos a ≡ pos b → s +ℤ pos c ≡ pos d → (x +ℤ s) +ℤ pos (a + c) ≡ pos (b + d)
parts-more x s a b c d e f = omega (arith, ints, e, f)

-- the positive and the negative part of what an entry adds
abbrev plus_at : ℕ → Entry → ℕ
plus_at k e = plus_part (value_at e k)

abbrev minus_at : ℕ → Entry → ℕ
minus_at k e = minus_part (value_at e k)

sum_at-parts : (es : List Entry) (k : ℕ) → sum_at es k +ℤ pos (sum_by (minus_at k) es) ≡ pos (sum_by (plus_at k) es)
sum_at-parts [] k = refl
sum_at-parts (e ∷ es) k =
    rw (sum_by-cons (minus_at k) e es, sum_by-cons (plus_at k) e es)
    (parts-more (value_at e k) (sum_at es k) _ _ _ _ (parts (value_at e k)) (sum_at-parts es k))

same_difference : (x y : ℤ) (a b : ℕ) → x +ℤ pos a ≡ pos b → y +ℤ pos a ≡ pos b → x ≡ y
same_difference x y a b e f = omega (arith, ints, e, f)

pub sum_at-permutation : (es fs : List Entry) (k : ℕ) → IsPermutation es fs → sum_at fs k ≡ sum_at es k
sum_at-permutation es fs k moved =
    let minus = sum_by-IsPermutation (minus_at k) es fs moved in
    let plus = sum_by-IsPermutation (plus_at k) es fs moved in
    same_difference (sum_at fs k) (sum_at es k) _ _ (ap (λ n. sum_at fs k +ℤ pos n) (sym minus) ∙ sum_at-parts fs k ∙ ap (λ n. pos n) plus) (sum_at-parts es k)

abs_sum-is : (es : List Entry) → abs_sum es ≡ sum_by (λ e. nat_abs e.value) es
abs_sum-is [] = refl
abs_sum-is (e ∷ es) = rw (sum_by-cons (λ (e : Entry). nat_abs e.value) e es) (ap (λ n. nat_abs e.value + n) (abs_sum-is es))

pub abs_sum-permutation : (es fs : List Entry) → IsPermutation es fs → abs_sum fs ≡ abs_sum es
abs_sum-permutation es fs moved = abs_sum-is fs ∙ sum_by-IsPermutation (λ e. nat_abs e.value) es fs moved ∙ sym (abs_sum-is es)

-- ---- lists that rise

IsRising-earlier : (least later n : ℕ) (es : List Entry) → least ≤ later → IsRising later n es → IsRising least n es
IsRising-earlier least later n [] le h = tt
IsRising-earlier least later n (e ∷ es) le h = (omega (arith, h.0), h.1, h.2)

pub IsRising-sparse : (least n : ℕ) (es : List Entry) → IsSparse (pos 0) least n (map as_pair es) → IsRising least n es
IsRising-sparse least n [] h = tt
IsRising-sparse least n (e ∷ es) h = (h.0, h.1, IsRising-earlier e.index (suc e.index) n es (omega arith) (IsRising-sparse (suc e.index) n es h.3))

pub IsRising-sorted : (least n : ℕ) (es : List Entry) → IsNonDecreasingBy (λ (e : Entry). e.index) es → All (λ e. e.index < n) es → (0 < length es → (d : Entry) → least ≤ (get_or es 0 d).index) → IsRising least n es
IsRising-sorted least n [] up below first = tt
IsRising-sorted least n (e ∷ es) up below first = (
  first (omega arith) e,
  All-head (λ (x : Entry). x.index < n) e es below,
  IsRising-sorted e.index n es (λ i j d le lt. up (suc i) (suc j) d (omega arith) (omega arith)) (All-tail (λ (x : Entry). x.index < n) e es below) (λ some d. up 0 1 d (omega arith) (omega arith)),
)

-- ---- the pending entries, sorted, are merged into the list

module _ (list pending sorted : List Entry) (moved : IsPermutation pending sorted) where
  pub settled-light : (m : ℕ) → abs_sum list + abs_sum pending ≤ m → abs_sum list + abs_sum sorted ≤ m
  settled-light m le = omega (arith, le, abs_sum-permutation pending sorted moved)

  pub settled-rising : (n : ℕ) → IsNonDecreasingBy (λ (e : Entry). e.index) sorted → All (λ e. e.index < n) pending → IsRising 0 n sorted
  settled-rising n up below =
      IsRising-sorted 0 n sorted up (All-permutation (λ (e : Entry). e.index < n) pending sorted moved below) (λ some d. omega arith)

  pub settled-merged : (n : ℕ) (merged : List Entry) → IsMerged n list sorted merged → IsMerged n list pending merged
  settled-merged n merged is = record {
    sparse = is.sparse;
    sums = λ k. is.sums k ∙ ap (λ z. sum_at list k +ℤ z) (sum_at-permutation pending sorted k moved);
  }
