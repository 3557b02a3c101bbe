-- What is shown at an index or after it does not depend on the nodes before its pair, and what holds of a folded list.
use Rattle.std.proofs.Common.{◌≡◌, ℕ, zero, suc, ◌+◌, ◌-◌, ◌*◌, ◌/◌, ◌%◌, ◌<◌, ◌≤◌, Bool, true, false, ◌||◌, List, [], ◌∷◌, ◌++◌, length, get_or, take, drop, All, ltb, leb, refl, sym, ap, ◌∙◌, arith, inl, inr}
use Rattle.std.specs.Prelude.{nat_lt, nat_le, sum_by}
use Rattle.std.specs.List.{list_all}
use Rattle.std.specs.List.{AllWithin}
use Rattle.std.specs.List.Sorted.{IsPartitionPoint}
use Rattle.std.proofs.lemmas.Bool.{and_parts, cases_Bool, ltb-true, leb-true, lt-ltb}
use Rattle.std.proofs.lemmas.Bool.Decides.{leb_tells, eqb_tells}
use Rattle.std.proofs.lemmas.List.Elements.{filter-append, All-nil, All-cons, All-head, All-tail}
use Rattle.std.proofs.lemmas.List.Sums.{sum_by-cons}
use Rattle.sip_wire.specs.declared.message.Node.{Node}
use Rattle.sip_heavy.specs.AcceptsHeavy.{joined}
use Rattle.sip_heavy.specs.Honest.{shown, shown_pair}
use Rattle.sip_heavy.specs.Spots.{left_of, right_of, spots_above, shown_spots, from_on}
use Rattle.sip_heavy.specs.Rising.{Rises}

-- ---- nodes before an index are not shown after it

gone : (t : ℕ) (is_leaf : Bool) (from : ℕ) (x : Node) → x.index < from → from_on from (shown t is_leaf x) ≡ []
gone t is_leaf from x before =
    let late : leb from x.index ≡ false = elim (leb_tells from x.index) [ inl s ↦ absurd (omega (arith, s.1)) | inr s ↦ s.0 ] in
    elim (cases_Bool (is_leaf || nat_lt x.count t)) [
      | inl s ↦ rw s (rw late refl)
      | inr s ↦ rw s refl
    ]

pair_gone : (t : ℕ) (is_leaf : Bool) (from : ℕ) (l h : Node) → l.index < from → h.index < from → from_on from (shown_pair t is_leaf l h) ≡ []
pair_gone t is_leaf from l h left right = elim (cases_Bool (nat_le t (l.count + h.count))) [
  | inl s ↦ rw s (filter-append (λ x. nat_le from x.index) (shown t is_leaf l) (shown t is_leaf h) ∙ rw (gone t is_leaf from l left, gone t is_leaf from h right) refl)
  | inr s ↦ rw s refl
]

-- the two nodes below one
below_left : (x : Node) (from : ℕ) → x.index / 2 < from / 2 → (left_of x).index < from
below_left x from less = elim (eqb_tells (x.index % 2) 0) [
  | inl s ↦ rw s.0 (omega (arith, less))
  | inr s ↦ rw s.0 (omega (arith, less))
]

below_right : (x : Node) (from : ℕ) → x.index / 2 < from / 2 → (right_of x).index < from
below_right x from less = elim (eqb_tells (x.index % 2) 0) [
  | inl s ↦ rw s.0 (omega (arith, less, s.1))
  | inr s ↦ rw s.0 (omega (arith, less))
]

one_gone : (t : ℕ) (is_leaf : Bool) (from : ℕ) (x : Node) (more : List Node) → x.index / 2 < from / 2
    → from_on from (shown_pair t is_leaf (left_of x) (right_of x) ++ more) ≡ from_on from more
one_gone t is_leaf from x more less =
    filter-append (λ y. nat_le from y.index) (shown_pair t is_leaf (left_of x) (right_of x)) more
    ∙ rw (pair_gone t is_leaf from (left_of x) (right_of x) (below_left x from less) (below_right x from less)) refl

two_gone : (t : ℕ) (is_leaf : Bool) (from : ℕ) (x y : Node) (more : List Node) → x.index / 2 < from / 2 → x.index / 2 ≡ y.index / 2
    → from_on from (shown_pair t is_leaf x y ++ more) ≡ from_on from more
two_gone t is_leaf from x y more less same =
    filter-append (λ z. nat_le from z.index) (shown_pair t is_leaf x y) more
    ∙ rw (pair_gone t is_leaf from x y (omega (arith, less)) (omega (arith, less, same))) refl

-- so the first nodes can be left out, as many as lie below an earlier pair
pub skipped : (t : ℕ) (is_leaf : Bool) (from n : ℕ) (xs : List Node) → list_all (λ x. nat_lt (x.index / 2) (from / 2)) (take n xs) ≡ true → list_all (λ x. nat_le (from / 2) (x.index / 2)) (drop n xs) ≡ true
    → from_on from (shown_spots t is_leaf xs) ≡ from_on from (shown_spots t is_leaf (drop n xs))
skipped t is_leaf from zero xs before after = refl
skipped t is_leaf from (suc n) [] before after = refl
skipped t is_leaf from (suc zero) (x ∷ []) before after =
    pair_gone t is_leaf from (left_of x) (right_of x) (below_left x from (ltb-true _ _ (and_parts (nat_lt (x.index / 2) (from / 2)) true before).0)) (below_right x from (ltb-true _ _ (and_parts (nat_lt (x.index / 2) (from / 2)) true before).0))
skipped t is_leaf from (suc (suc n)) (x ∷ []) before after =
    pair_gone t is_leaf from (left_of x) (right_of x) (below_left x from (ltb-true _ _ (and_parts (nat_lt (x.index / 2) (from / 2)) true before).0)) (below_right x from (ltb-true _ _ (and_parts (nat_lt (x.index / 2) (from / 2)) true before).0))
skipped t is_leaf from (suc zero) (x ∷ y ∷ more) before after =
    let less = ltb-true (x.index / 2) (from / 2) (and_parts (nat_lt (x.index / 2) (from / 2)) true before).0 in
    let next = leb-true (from / 2) (y.index / 2) (and_parts (nat_le (from / 2) (y.index / 2)) (list_all (λ z. nat_le (from / 2) (z.index / 2)) more) after).0 in
    elim (eqb_tells (x.index / 2) (y.index / 2)) [
      | inl s ↦ absurd (omega (arith, less, next, s.1))
      | inr s ↦ rw s.0 (one_gone t is_leaf from x (shown_spots t is_leaf (y ∷ more)) less)
    ]
skipped t is_leaf from (suc (suc n)) (x ∷ y ∷ more) before after =
    let parts = and_parts (nat_lt (x.index / 2) (from / 2)) (list_all (λ z. nat_lt (z.index / 2) (from / 2)) (y ∷ take n more)) before in
    let later = and_parts (nat_lt (y.index / 2) (from / 2)) (list_all (λ z. nat_lt (z.index / 2) (from / 2)) (take n more)) parts.1 in
    let less = ltb-true (x.index / 2) (from / 2) parts.0 in
    elim (eqb_tells (x.index / 2) (y.index / 2)) [
      | inl s ↦ rw s.0 (two_gone t is_leaf from x y (shown_spots t is_leaf more) less s.1 ∙ skipped t is_leaf from n more later.1 after)
      | inr s ↦ rw s.0 (one_gone t is_leaf from x (shown_spots t is_leaf (y ∷ more)) less ∙ skipped t is_leaf from (suc n) (y ∷ more) parts.1 after)
    ]

-- ---- a folded list

joined_sum : (p r : ℕ) (x : Node) → (joined p r (left_of x) (right_of x)).count ≡ x.count
joined_sum p r x = elim (eqb_tells (x.index % 2) 0) [
  | inl s ↦ rw s.0 (omega arith)
  | inr s ↦ rw s.0 (omega arith)
]

half_one : (p r n : ℕ) (x : Node) → x.index < 2 * n → (joined p r (left_of x) (right_of x)).index < n
half_one p r n x below = elim (eqb_tells (x.index % 2) 0) [
  | inl s ↦ rw s.0 (omega (arith, below))
  | inr s ↦ rw s.0 (omega (arith, below))
]

-- the counts keep their sum
pub same_sum : (p r : ℕ) (xs : List Node) → sum_by (λ x. x.count) (spots_above p r xs) ≡ sum_by (λ x. x.count) xs
same_sum p r [] = refl
same_sum p r (x ∷ []) = ap (λ n. 0 + n) (joined_sum p r x)
same_sum p r (x ∷ y ∷ more) =
    let f : Node → ℕ = λ z. z.count in
    elim (eqb_tells (x.index / 2) (y.index / 2)) [
      | inl s ↦
          rw s.0 (
          sum_by-cons f (joined p r x y) (spots_above p r more) ∙ ap (λ n. x.count + y.count + n) (same_sum p r more)
          ∙ regroup x.count y.count (sum_by f more) ∙ ap (λ n. x.count + n) (sym (sum_by-cons f y more)) ∙ sym (sum_by-cons f x (y ∷ more))
          )
      | inr s ↦
          rw s.0 (
          sum_by-cons f (joined p r (left_of x) (right_of x)) (spots_above p r (y ∷ more)) ∙ ap (λ n. n + sum_by f (spots_above p r (y ∷ more))) (joined_sum p r x)
          ∙ ap (λ n. x.count + n) (same_sum p r (y ∷ more)) ∙ sym (sum_by-cons f x (y ∷ more))
          )
    ]
  where
    regroup : (a b c : ℕ) → a + b + c ≡ a + (b + c)
    regroup a b c = omega arith

-- each index is halved
pub half_indices : (p r n : ℕ) (xs : List Node) → All (λ x. x.index < 2 * n) xs → All (λ x. x.index < n) (spots_above p r xs)
half_indices p r n [] all = All-nil (λ x. x.index < n)
half_indices p r n (x ∷ []) all = All-cons (λ x. x.index < n) _ [] (half_one p r n x (All-head (λ y. y.index < 2 * n) x [] all)) (All-nil (λ x. x.index < n))
half_indices p r n (x ∷ y ∷ more) all =
    let first = All-head (λ z. z.index < 2 * n) x (y ∷ more) all in
    let rest = All-tail (λ z. z.index < 2 * n) x (y ∷ more) all in
    elim (eqb_tells (x.index / 2) (y.index / 2)) [
      | inl s ↦ rw s.0 (All-cons (λ z. z.index < n) (joined p r x y) (spots_above p r more) (omega (arith, first)) (half_indices p r n more (All-tail (λ z. z.index < 2 * n) y more rest)))
      | inr s ↦ rw s.0 (All-cons (λ z. z.index < n) (joined p r (left_of x) (right_of x)) (spots_above p r (y ∷ more)) (half_one p r n x first) (half_indices p r n (y ∷ more) rest))
    ]

-- ---- a rising list

above_index : (p r : ℕ) (x : Node) → (joined p r (left_of x) (right_of x)).index ≡ x.index / 2
above_index p r x = elim (eqb_tells (x.index % 2) 0) [
  | inl s ↦ rw s.0 refl
  | inr s ↦ rw s.0 (omega (arith, s.1))
]

-- an earlier index will do
pub rises_more : (n a b : ℕ) (xs : List Node) → a ≤ b → Rises b n xs → Rises a n xs
rises_more n a b [] le rises = tt
rises_more n a b (x ∷ xs) le rises = (omega (arith, rises.0), rises.1, rises.2)

pub spots_rise : (p r n least : ℕ) (xs : List Node) → Rises least n xs → Rises (least / 2) n (spots_above p r xs)
spots_rise p r n least [] rises = tt
spots_rise p r n least (x ∷ []) rises = rw (above_index p r x) (omega (arith, rises.0), omega (arith, rises.1), tt)
spots_rise p r n least (x ∷ y ∷ more) rises = elim (eqb_tells (x.index / 2) (y.index / 2)) [
  | inl s ↦
      rw s.0 (
        omega (arith, rises.0),
        omega (arith, rises.1),
        rises_more n (suc (x.index / 2)) (suc y.index / 2) (spots_above p r more) (omega (arith, s.1, rises.2.0)) (spots_rise p r n (suc y.index) more rises.2.2),
      )
  | inr s ↦
      rw (s.0, above_index p r x) (
        omega (arith, rises.0),
        omega (arith, rises.1),
        rises_more n (suc (x.index / 2)) (y.index / 2) (spots_above p r (y ∷ more)) (omega (arith, s.1, rises.2.0)) (spots_rise p r n y.index (y ∷ more) (omega arith, rises.2.1, rises.2.2)),
      )
]

pub all_in : (n least : ℕ) (xs : List Node) → Rises least n xs → All (λ x. x.index < n) xs
all_in n least [] rises = All-nil (λ x. x.index < n)
all_in n least (x ∷ xs) rises = All-cons (λ y. y.index < n) x xs rises.1 (all_in n (suc x.index) xs rises.2)

pub all_light : (n : ℕ) (xs : List Node) → sum_by (λ x. x.count) xs < n → All (λ x. x.count < n) xs
all_light n [] few = All-nil (λ x. x.count < n)
all_light n (x ∷ xs) few =
    let f : Node → ℕ = λ z. z.count in
    let whole = sum_by-cons f x xs in
    All-cons (λ y. y.count < n) x xs (first x.count (sum_by f xs) _ whole few) (all_light n xs (later x.count (sum_by f xs) _ whole few))
  where
    first : (a b c : ℕ) → c ≡ a + b → c < n → a < n
    first a b c e less = omega arith

    later : (a b c : ℕ) → c ≡ a + b → c < n → b < n
    later a b c e less = omega arith

least_le : (xs : List Node) (least n j : ℕ) (d : Node) → Rises least n xs → j < length xs → least ≤ (get_or xs j d).index
least_le [] least n j d h below = absurd (omega arith)
least_le (x ∷ xs) least n zero d h below = h.0
least_le (x ∷ xs) least n (suc j) d h below = let tail = least_le xs (suc x.index) n j d h.2 (omega arith) in omega (arith, h.0, tail)

pub halves_rise : (xs : List Node) (least n i j : ℕ) (d : Node) → Rises least n xs → i ≤ j → j < length xs → (get_or xs i d).index / 2 ≤ (get_or xs j d).index / 2
halves_rise [] least n i j d h le below = absurd (omega arith)
halves_rise (x ∷ xs) least n zero zero d h le below = omega arith
halves_rise (x ∷ xs) least n zero (suc j) d h le below = let tail = least_le xs (suc x.index) n j d h.2 (omega arith) in omega (arith, tail)
halves_rise (x ∷ xs) least n (suc i) zero d h le below = absurd (omega arith)
halves_rise (x ∷ xs) least n (suc i) (suc j) d h le below = halves_rise xs (suc x.index) n i j d h.2 (omega arith) (omega arith)

-- ---- where the nodes of earlier pairs end

take_true : (f : Node → Bool) (xs : List Node) (n : ℕ) → AllWithin (λ y. f y ≡ true) xs 0 n → list_all f (take n xs) ≡ true
take_true f xs zero h = refl
take_true f [] (suc n) h = refl
take_true f (x ∷ xs) (suc n) h = rw (h 0 x (omega arith) (omega arith)) (take_true f xs n (λ k d le lt. h (suc k) d (omega arith) (omega arith)))

drop_true : (f : Node → Bool) (xs : List Node) (n : ℕ) → AllWithin (λ y. f y ≡ true) xs n (length xs) → list_all f (drop n xs) ≡ true
drop_true f [] zero h = refl
drop_true f (x ∷ xs) zero h = rw (h 0 x (omega arith) (omega arith)) (drop_true f xs zero (λ k d le lt. h (suc k) d (omega arith) (omega arith)))
drop_true f [] (suc n) h = refl
drop_true f (x ∷ xs) (suc n) h = drop_true f xs n (λ k d le lt. h (suc k) d (omega arith) (omega arith))

pub skipped_at : (t : ℕ) (is_leaf : Bool) (from n : ℕ) (xs : List Node) → IsPartitionPoint (λ y. nat_lt (y.index / 2) (from / 2) ≡ true) (λ y. nat_lt (y.index / 2) (from / 2) ≡ false) xs n
    → from_on from (shown_spots t is_leaf (drop n xs)) ≡ from_on from (shown_spots t is_leaf xs)
skipped_at t is_leaf from n xs parts =
    sym (skipped t is_leaf from n xs (take_true (λ y. nat_lt (y.index / 2) (from / 2)) xs n parts.0)
    (drop_true (λ y. nat_le (from / 2) (y.index / 2)) xs n (λ k d le lt. other ((get_or xs k d).index / 2) (from / 2) (parts.1 k d le lt))))
  where
    other : (a b : ℕ) → nat_lt a b ≡ false → nat_le b a ≡ true
    other a b e = elim (leb_tells b a) [
      | inl s ↦ s.0
      | inr s ↦ absurd (let here : ltb a b ≡ true = lt-ltb a b s.1 in cc (here, e))
    ]

-- what stands for an element that is not there does not matter where it is
same_there : (xs : List Node) (k : ℕ) (d e : Node) → k < length xs → get_or xs k d ≡ get_or xs k e
same_there [] k d e below = absurd (omega arith)
same_there (x ∷ xs) zero d e below = refl
same_there (x ∷ xs) (suc k) d e below = same_there xs k d e (omega arith)

-- where indices rise, the nodes on both sides of a place tell that it parts the pairs
pub parts_here : (least n half place : ℕ) (xs : List Node) (e : Node) → Rises least n xs → place ≤ length xs
    → (1 ≤ place → (get_or xs (place - 1) e).index / 2 < half) → (place < length xs → half ≤ (get_or xs place e).index / 2)
    → IsPartitionPoint (λ y. nat_lt (y.index / 2) half ≡ true) (λ y. nat_lt (y.index / 2) half ≡ false) xs place
parts_here least n half place xs e rises within before behind = (front, back)
  where
    below : (a b : ℕ) → a < b → nat_lt a b ≡ true
    below a b less = lt-ltb a b less

    not_below : (a b : ℕ) → b ≤ a → nat_lt a b ≡ false
    not_below a b le = elim (leb_tells (suc a) b) [ inl s ↦ absurd (omega (arith, s.1, le)) | inr s ↦ s.0 ]

    front : (k : ℕ) (d : Node) → 0 ≤ k → k < place → nat_lt ((get_or xs k d).index / 2) half ≡ true
    front k d from to =
        let upto = halves_rise xs least n k (place - 1) d rises (omega (arith, to)) (omega (arith, to, within)) in
        let same = ap (λ (x : Node). x.index / 2) (same_there xs (place - 1) d e (omega (arith, to, within))) in
        below ((get_or xs k d).index / 2) half (omega (arith, upto, same, before (omega (arith, to))))

    back : (k : ℕ) (d : Node) → place ≤ k → k < length xs → nat_lt ((get_or xs k d).index / 2) half ≡ false
    back k d from to =
        let on = halves_rise xs least n place k d rises from to in
        let same = ap (λ (x : Node). x.index / 2) (same_there xs place d e (omega (arith, from, to))) in
        not_below ((get_or xs k d).index / 2) half (omega (arith, on, same, behind (omega (arith, from, to))))
