-- What a list and pending entries show, number by number.
use Rattle.std.proofs.Common.{◌≡◌, ◌==◌, true, ℕ, suc, ◌+◌, ◌^◌, ◌<◌, ◌≤◌, ◌↔◌, ◌≤ℤ◌, List, [], ◌∷◌, ◌++◌, length, get_or, set, map, filter, not, sum_by, All, Result, Ok, Err, IfOk, Some, None, ℤ, pos, ◌+ℤ◌, nat_abs, refl, sym, ap, subst, ◌∙◌, inl, inr, arith}
use Rattle.std.proofs.lemmas.Bool.Decides.{eqb_tells}
use Rattle.std.proofs.lemmas.Int.{ints}
use Rattle.std.proofs.lemmas.List.{length-set, get_or-set_same, get_or-set_other, set-set, ext_get_or}
use Rattle.std.proofs.lemmas.List.Elements.{All-nil, All-cons, All-push, All-head, All-tail, All-set, All-get_or, All-replicate}
use Rattle.std.proofs.lemmas.List.Sums.{sum_by-set}
use Rattle.std.specs.List.Sorted.{IsPermutation}
use Rattle.std.proofs.lemmas.List.Sorted.{All-permutation}
use Rattle.sip_vector.specs.declared.update.Entry.{Entry}
use Rattle.sip_vector.specs.Sparse.{dense, IsSparse}
use Rattle.sip_vector.specs.Streams.{int_sum, most_weight}
use Rattle.sip_vector.specs.Vectors.{SideVector, numbers_of, zeros, nonzero, nonzero_within}
use Rattle.sip_vector.specs.inside.Gathered.{as_pair, sum_at, abs_sum, raised, gathered, IsGathered, IsMerged, IsListOf, IsBare, IsFirstFrom, IsFirstOf}
use Rattle.sip_vector.proofs.Dense.{set_same, length-dense, get_or-dense_below, passing-dense}
use Rattle.sip_vector.proofs.Filters.{as_entry, filter-map, filter-both, not_zero}
use Rattle.sip_vector.specs.Answers.{entries, is_within, is_zero}
use Rattle.std.specs.List.{enumerate_from}
use Rattle.sip_vector.proofs.Merges.{abs_sum-append, sum_at-permutation, abs_sum-permutation}
use Rattle.sip_vector.proofs.Sums.{nat_abs-add-le, nat_abs-int_sum-le, int_sum-set, int_sum-zeros, sum_by-zeros}

pub length-raised : (xs : List ℤ) (es : List Entry) → length (raised xs es) ≡ length xs
length-raised xs [] = refl
length-raised xs (e ∷ es) =
    let value = get_or xs e.index (pos 0) +ℤ e.value in
    length-raised (set xs e.index value) es ∙ length-set xs e.index value

-- one more entry raises one number
pub raised-push : (xs : List ℤ) (es : List Entry) (e : Entry) → raised xs (es ++ e ∷ []) ≡ set (raised xs es) e.index (get_or (raised xs es) e.index (pos 0) +ℤ e.value)
raised-push xs [] e = refl
raised-push xs (x ∷ es) e = raised-push (set xs x.index (get_or xs x.index (pos 0) +ℤ x.value)) es e

add-zero : (z : ℤ) → z ≡ z +ℤ pos 0
add-zero z = omega (arith, ints)

add-same : (a b c d : ℤ) → a ≡ (b +ℤ c) +ℤ d → a ≡ b +ℤ (c +ℤ d)
add-same a b c d e = omega (arith, ints, e)

add-other : (a b d : ℤ) → a ≡ b +ℤ d → a ≡ b +ℤ (pos 0 +ℤ d)
add-other a b d e = omega (arith, ints, e)

-- each number is raised by what the entries add at its index
pub get_or-raised : (xs : List ℤ) (es : List Entry) (i : ℕ) → i < length xs → get_or (raised xs es) i (pos 0) ≡ get_or xs i (pos 0) +ℤ sum_at es i
get_or-raised xs [] i below = add-zero (get_or xs i (pos 0))
get_or-raised xs (e ∷ es) i below =
    let value = get_or xs e.index (pos 0) +ℤ e.value in
    let len = length-set xs e.index value in
    let tail = get_or-raised (set xs e.index value) es i (omega (arith, below)) in
    elim (eqb_tells e.index i) [
      | inl t ↦
          let here : get_or (set xs e.index value) i (pos 0) ≡ get_or xs i (pos 0) +ℤ e.value =
          ap (λ k. get_or (set xs e.index value) k (pos 0)) (sym t.1) ∙ get_or-set_same xs e.index value (pos 0) (omega (arith, t.1, below)) ∙ ap (λ k. get_or xs k (pos 0) +ℤ e.value) t.1 in
          rw t.0 (add-same _ (get_or xs i (pos 0)) e.value (sum_at es i) (tail ∙ ap (λ z. z +ℤ sum_at es i) here))
      | inr t ↦
          let there : get_or (set xs e.index value) i (pos 0) ≡ get_or xs i (pos 0) = get_or-set_other xs e.index i value (pos 0) (λ same. t.1 (sym same)) in
          rw t.0 (add-other _ (get_or xs i (pos 0)) (sum_at es i) (tail ∙ ap (λ z. z +ℤ sum_at es i) there))
    ]

-- a list's number at an index is what it adds there
pub get_or-pairs : (least n i : ℕ) (es : List Entry) → IsSparse (pos 0) least n (map as_pair es) → get_or (dense (pos 0) n (map as_pair es)) i (pos 0) ≡ sum_at es i
unfolding dense
get_or-pairs least n i [] h = get_or-dense_below (pos 0) (suc i) n i [] tt (omega arith)
get_or-pairs least n i (e ∷ es) h =
    let xs = dense (pos 0) n (map as_pair es) in
    let len = length-dense (pos 0) n (map as_pair es) in
    let tail = get_or-pairs (suc e.index) n i es h.3 in
    elim (eqb_tells e.index i) [
      | inl t ↦
          let here : get_or (set xs e.index e.value) i (pos 0) ≡ e.value = ap (λ k. get_or (set xs e.index e.value) k (pos 0)) (sym t.1) ∙ get_or-set_same xs e.index e.value (pos 0) (omega (arith, h.1)) in
          let none : sum_at es i ≡ pos 0 = sym tail ∙ get_or-dense_below (pos 0) (suc e.index) n i (map as_pair es) h.3 (omega (arith, t.1)) in
          rw t.0 (here ∙ add-zero e.value ∙ ap (λ z. e.value +ℤ z) (sym none))
      | inr t ↦
          let there : get_or (set xs e.index e.value) i (pos 0) ≡ get_or xs i (pos 0) = get_or-set_other xs e.index i e.value (pos 0) (λ same. t.1 (sym same)) in
          rw t.0 (there ∙ tail ∙ (let z : sum_at es i ≡ pos 0 +ℤ sum_at es i = omega (arith, ints) in z))
    ]

pub length-gathered : (depth : ℕ) (list pending : List Entry) → length (gathered depth list pending) ≡ 2 ^ depth
length-gathered depth list pending = length-raised _ pending ∙ length-dense (pos 0) (2 ^ depth) (map as_pair list)

-- the number at an index is what both add there
pub get_or-gathered : (depth i : ℕ) (list pending : List Entry) → IsSparse (pos 0) 0 (2 ^ depth) (map as_pair list) → i < 2 ^ depth
    → get_or (gathered depth list pending) i (pos 0) ≡ sum_at list i +ℤ sum_at pending i
get_or-gathered depth i list pending sparse below =
    let len = length-dense (pos 0) (2 ^ depth) (map as_pair list) in
    get_or-raised (numbers_of depth (map as_pair list)) pending i (omega arith)
    ∙ ap (λ z. z +ℤ sum_at pending i) (get_or-pairs 0 (2 ^ depth) i list sparse)

-- so lists that add up to the same show the same
pub same_gathered : (depth : ℕ) (list pending list2 pending2 : List Entry) → IsSparse (pos 0) 0 (2 ^ depth) (map as_pair list) → IsSparse (pos 0) 0 (2 ^ depth) (map as_pair list2)
    → ((k : ℕ) → sum_at list2 k +ℤ sum_at pending2 k ≡ sum_at list k +ℤ sum_at pending k)
    → gathered depth list2 pending2 ≡ gathered depth list pending
same_gathered depth list pending list2 pending2 sparse sparse2 same =
    let len = length-gathered depth list pending in
    let len2 = length-gathered depth list2 pending2 in
    ext_get_or (pos 0) (gathered depth list2 pending2) (gathered depth list pending) (omega arith) (λ i below.
    get_or-gathered depth i list2 pending2 sparse2 (omega arith) ∙ same i ∙ sym (get_or-gathered depth i list pending sparse (omega arith)))

-- ---- the invariant of a vector

pub IsGathered-nil : (depth : ℕ) → IsGathered depth [] [] (pos 0) 0
unfolding dense
IsGathered-nil depth = record {
  sparse = tt;
  within = All-nil (λ (e : Entry). e.index < 2 ^ depth);
  sums = sym (int_sum-zeros (2 ^ depth));
  light = omega arith;
  most = omega arith;
}

pub gathered-nil : (depth : ℕ) → gathered depth [] [] ≡ zeros depth
unfolding dense zeros
gathered-nil depth = refl

-- the numbers are no heavier than what was added
pub sum_by-raised : (n : ℕ) (xs : List ℤ) (es : List Entry) → length xs ≡ n → All (λ e. e.index < n) es → sum_by nat_abs (raised xs es) ≤ sum_by nat_abs xs + abs_sum es
sum_by-raised n xs [] len within = omega arith
sum_by-raised n xs (e ∷ es) len within =
    let old = get_or xs e.index (pos 0) in
    let value = old +ℤ e.value in
    let below = All-head (λ (x : Entry). x.index < n) e es within in
    let tail = sum_by-raised n (set xs e.index value) es (length-set xs e.index value ∙ len) (All-tail (λ (x : Entry). x.index < n) e es within) in
    omega (arith, tail, sum_by-set nat_abs xs e.index value (pos 0) (omega (arith, below, len)), nat_abs-add-le old e.value)

sum_by-pairs : (least n : ℕ) (es : List Entry) → IsSparse (pos 0) least n (map as_pair es) → sum_by nat_abs (dense (pos 0) n (map as_pair es)) ≤ abs_sum es
unfolding dense
sum_by-pairs least n [] h = rw (sum_by-zeros n) (omega arith)
sum_by-pairs least n (e ∷ es) h =
    let xs = dense (pos 0) n (map as_pair es) in
    let len = length-dense (pos 0) n (map as_pair es) in
    omega (arith, sum_by-pairs (suc e.index) n es h.3, sum_by-set nat_abs xs e.index e.value (pos 0) (omega (arith, h.1)))

abs_sum_at : (es : List Entry) (k : ℕ) → nat_abs (sum_at es k) ≤ abs_sum es
abs_sum_at [] k = omega arith
abs_sum_at (e ∷ es) k =
    let tail = abs_sum_at es k in
    elim (eqb_tells e.index k) [
      | inl t ↦ rw t.0 (omega (arith, tail, nat_abs-add-le e.value (sum_at es k)))
      | inr t ↦ rw t.0 (omega (arith, tail, nat_abs-add-le (pos 0) (sum_at es k)))
    ]

module _ (depth : ℕ) (list pending : List Entry) (total : ℤ) (weight : ℕ) (is : IsGathered depth list pending total weight) where
  pub numbers-light : sum_by nat_abs (gathered depth list pending) ≤ weight
  numbers-light =
      let xs = numbers_of depth (map as_pair list) in
      let len = length-dense (pos 0) (2 ^ depth) (map as_pair list) in
      omega (arith, sum_by-raised (2 ^ depth) xs pending len is.within, sum_by-pairs 0 (2 ^ depth) list is.sparse, is.light)

  pub total-light : nat_abs total ≤ weight
  total-light = rw is.sums (omega (arith, nat_abs-int_sum-le (gathered depth list pending), numbers-light))

  pub sums-light : (k : ℕ) → nat_abs (sum_at list k) + nat_abs (sum_at pending k) ≤ weight
  sums-light k = omega (arith, abs_sum_at list k, abs_sum_at pending k, is.light)

  pub both-light : abs_sum list + abs_sum pending ≤ most_weight
  both-light = omega (arith, is.light, is.most)

  pub number-light : (k : ℕ) → nat_abs (sum_at list k +ℤ sum_at pending k) ≤ weight
  number-light k = omega (arith, nat_abs-add-le (sum_at list k) (sum_at pending k), sums-light k)

  -- one more addition waits
  module _ (index : ℕ) (delta : ℤ) (below : index < 2 ^ depth) (light : weight + nat_abs delta ≤ most_weight) where
    abbrev addition : Entry
    addition = record { index = index; value = delta }

    pub gathered-push : gathered depth list (pending ++ addition ∷ []) ≡ set (gathered depth list pending) index (get_or (gathered depth list pending) index (pos 0) +ℤ delta)
    gathered-push = raised-push (numbers_of depth (map as_pair list)) pending addition

    pub IsGathered-push : IsGathered depth list (pending ++ addition ∷ []) (total +ℤ delta) (weight + nat_abs delta)
    IsGathered-push =
        let len = length-gathered depth list pending in
        record {
          sparse = is.sparse;
          within = All-push (λ (e : Entry). e.index < 2 ^ depth) pending addition is.within below;
          sums = rw (gathered-push, is.sums) (sym (int_sum-set (gathered depth list pending) index delta (omega arith)));
          light = omega (arith, abs_sum-append pending (addition ∷ []), is.light);
          most = light;
        }

  -- pending entries in another order
  module _ (moved_to : List Entry) (moved : IsPermutation pending moved_to) where
    pub gathered-moved : gathered depth list moved_to ≡ gathered depth list pending
    gathered-moved = same_gathered depth list pending list moved_to is.sparse is.sparse (λ k. ap (λ z. sum_at list k +ℤ z) (sum_at-permutation pending moved_to k moved))

    pub IsGathered-moved : IsGathered depth list moved_to total weight
    IsGathered-moved = record {
      sparse = is.sparse;
      within = All-permutation (λ (e : Entry). e.index < 2 ^ depth) pending moved_to moved is.within;
      sums = is.sums ∙ ap int_sum (sym gathered-moved);
      light = omega (arith, is.light, abs_sum-permutation pending moved_to moved);
      most = is.most;
    }

  -- pending entries in the list
  module _ (merged : List Entry) (done : IsMerged (2 ^ depth) list pending merged) (light : abs_sum merged ≤ abs_sum list + abs_sum pending) where
    pub gathered-merged : gathered depth merged [] ≡ gathered depth list pending
    gathered-merged = same_gathered depth list pending merged [] is.sparse done.sparse (λ k. sym (add-zero (sum_at merged k)) ∙ done.sums k)

    pub IsGathered-merged : IsGathered depth merged [] total weight
    IsGathered-merged = record {
      sparse = done.sparse;
      within = All-nil (λ (e : Entry). e.index < 2 ^ depth);
      sums = is.sums ∙ ap int_sum (sym gathered-merged);
      light = omega (arith, light, is.light);
      most = is.most;
    }

    pub IsListOf-merged : IsListOf (record { depth = depth; numbers = gathered depth list pending; weight = weight }) merged
    IsListOf-merged = record {
      sparse = done.sparse;
      numbers = sym gathered-merged;
      light = omega (arith, light, is.light, is.most);
    }

-- where nothing is pending the list shows what both do
pub IsListOf-settled : (depth : ℕ) (list pending : List Entry) (total : ℤ) (weight : ℕ) → IsGathered depth list pending total weight → (length pending == 0) ≡ true
    → IsListOf (record { depth = depth; numbers = gathered depth list pending; weight = weight }) list
IsListOf-settled depth list [] total weight is none = record {
  sparse = is.sparse;
  numbers = refl;
  light = omega (arith, is.light, is.most);
}
IsListOf-settled depth list (e ∷ es) total weight is none = absurd (elim (eqb_tells (length (e ∷ es)) 0) [ inl t ↦ omega (arith, t.1) | inr t ↦ (let no = t.0 in cc) ])

-- ---- the entries that are not 0 are those of a list that shows the same

as_entry-as_pair : (es : List Entry) → map as_entry (map as_pair es) ≡ es
as_entry-as_pair [] = refl
as_entry-as_pair (e ∷ es) = ap (λ fs. e ∷ fs) (as_entry-as_pair es)

pub nonzero-list : (vector : SideVector) (list : List Entry) → IsListOf vector list → list ≡ nonzero vector.numbers
nonzero-list vector list is =
    let n = 2 ^ vector.depth in
    let all = enumerate_from 0 (dense (pos 0) n (map as_pair list)) in
    let here : nonzero (numbers_of vector.depth (map as_pair list)) ≡ list =
    filter-map (λ (e : Entry). not (is_zero e.value)) as_entry all
    ∙ ap (map as_entry) (passing-dense (pos 0) (λ z. not (is_zero z)) refl not_zero 0 n (map as_pair list) is.sparse)
    ∙ as_entry-as_pair list in
    sym (ap nonzero is.numbers ∙ here)

pub IfOk_both : {X Y : Type 0} (P Q : X → Type 0) (r : Result X Y) → IfOk r P → IfOk r Q → IfOk r (λ x. P x × Q x)
IfOk_both P Q (Ok x) p q = (p, q)
IfOk_both P Q (Err y) p q = tt

-- where neither the list nor the pending entries add anything there are zeros
pub zeros-between : (depth from to : ℕ) (list pending : List Entry) → IsSparse (pos 0) 0 (2 ^ depth) (map as_pair list) → to ≤ 2 ^ depth → IsBare list from to → IsBare pending from to
    → (k : ℕ) → from ≤ k → k < to → get_or (gathered depth list pending) k (pos 0) ≡ pos 0
zeros-between depth from to list pending sparse inside bare waits k above below =
    get_or-gathered depth k list pending sparse (omega arith) ∙ both (sum_at list k) (sum_at pending k) (bare k above below) (waits k above below)
  where
    both : (a b : ℤ) → a ≡ pos 0 → b ≡ pos 0 → a +ℤ b ≡ pos 0
    both a b e f = omega (arith, ints, e, f)

-- the entries from lo to hi that are not 0 are those of the list there
pub nonzero_within-list : (vector : SideVector) (list : List Entry) (lo hi : ℕ) → IsListOf vector list → nonzero_within lo hi vector.numbers ≡ filter (λ (e : Entry). is_within lo hi e.index) list
nonzero_within-list vector list lo hi is =
    filter-both (λ (e : Entry). is_within lo hi e.index) (λ (e : Entry). not (is_zero e.value)) (entries vector.numbers)
    ∙ ap (filter (λ (e : Entry). is_within lo hi e.index)) (sym (nonzero-list vector list is))

-- the first entry of a list is the first number that is not 0
module _ (vector : SideVector) (list : List Entry) (is : IsListOf vector list) (from hi : ℕ) where
  number_at-list : (k : ℕ) → get_or vector.numbers k (pos 0) ≡ sum_at list k
  number_at-list k = ap (λ xs. get_or xs k (pos 0)) is.numbers ∙ get_or-pairs 0 (2 ^ vector.depth) k list is.sparse

  pub first-listed : (e : Entry) → e.index ≤ hi → IsFirstFrom (2 ^ vector.depth) list from (Some e) → IsFirstOf vector.numbers from hi (Some e)
  first-listed e below h = (h.0, below, h.2, number_at-list e.index ∙ h.3, λ k above lt. number_at-list k ∙ h.4 k above lt)

  pub first-later : (e : Entry) → hi < e.index → IsFirstFrom (2 ^ vector.depth) list from (Some e) → IsFirstOf vector.numbers from hi None
  first-later e past h = λ k above below. number_at-list k ∙ h.4 k above (omega arith)

  pub first-none : IsFirstFrom (2 ^ vector.depth) list from None → IsFirstOf vector.numbers from hi None
  first-none h = λ k above below. number_at-list k ∙ h k above

-- ---- no number is negative exactly where no entry of the list is

abbrev NotNegative : ℤ → Type 0
NotNegative a = pos 0 ≤ℤ a

abbrev IsNotNegative : Entry → Type 0
IsNotNegative e = pos 0 ≤ℤ e.value

numbers-not_negative : (n : ℕ) (es : List Entry) → All IsNotNegative es → All NotNegative (dense (pos 0) n (map as_pair es))
unfolding dense
numbers-not_negative n [] h = All-replicate NotNegative n (pos 0) (omega (arith, ints))
numbers-not_negative n (e ∷ es) h =
    All-set NotNegative (dense (pos 0) n (map as_pair es)) e.index e.value (All-head IsNotNegative e es h) (numbers-not_negative n es (All-tail IsNotNegative e es h))

entries-not_negative : (least n : ℕ) (es : List Entry) → IsSparse (pos 0) least n (map as_pair es) → All NotNegative (dense (pos 0) n (map as_pair es)) → All IsNotNegative es
unfolding dense
entries-not_negative least n [] sparse h = All-nil IsNotNegative
entries-not_negative least n (e ∷ es) sparse h =
    let xs = dense (pos 0) n (map as_pair es) in
    let len = length-dense (pos 0) n (map as_pair es) in
    let len_set = length-set xs e.index e.value in
    let here : NotNegative e.value = subst NotNegative (get_or-set_same xs e.index e.value (pos 0) (omega (arith, sparse.1))) (All-get_or NotNegative (set xs e.index e.value) e.index (pos 0) (omega (arith, sparse.1)) h) in
    let tail : set (set xs e.index e.value) e.index (pos 0) ≡ xs = set-set xs e.index e.value (pos 0) ∙ set_same xs e.index (pos 0) (get_or-dense_below (pos 0) (suc e.index) n e.index (map as_pair es) sparse.3 (omega arith)) in
    All-cons IsNotNegative e es here
    (entries-not_negative (suc e.index) n es sparse.3 (subst (All NotNegative) tail (All-set NotNegative (set xs e.index e.value) e.index (pos 0) (omega (arith, ints)) h)))

pub not_negative-is : (vector : SideVector) (list : List Entry) → IsListOf vector list → All IsNotNegative list ↔ All NotNegative vector.numbers
not_negative-is vector list is = (
  λ all. subst (All NotNegative) (sym is.numbers) (numbers-not_negative (2 ^ vector.depth) list all),
  λ all. entries-not_negative 0 (2 ^ vector.depth) list is.sparse (subst (All NotNegative) is.numbers all),
)
