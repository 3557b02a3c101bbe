-- The sums of products that queries over legal streams ask for are small.
use Rattle.std.proofs.Common.{◌≡◌, ◌≢◌, ℕ, zero, suc, ◌+◌, ◌*◌, ◌^◌, ◌≤◌, Bool, true, false, cond, ◌==◌, eqb, Option, Some, List, [], ◌∷◌, length, map, ℤ, pos, ◌*ℤ◌, nat_abs, sum_by, All, inl, inr, refl, sym, ap, subst, arith, le_refl, mul-le-mul, mul-le-mul_left}
use Rattle.std.specs.List.{range_with_len}
use Rattle.std.proofs.lemmas.Bool.{cases_Bool, cases_eq, ne_eqb}
use Rattle.std.proofs.lemmas.Int.{unsigned_abs-mul}
use Rattle.std.proofs.lemmas.List.Elements.{All-nil, All-cons, All-head, All-tail, All-map}
use Rattle.std.proofs.lemmas.List.FromFn.{length-map-range_with_len}
use Rattle.std.proofs.lemmas.List.Sums.{sum_by-cons}
use Rattle.sip_vector.proofs.Everywhere.{everywhere}
use Rattle.sip_vector.specs.declared.query.Query.{Query}
use Rattle.sip_vector.specs.declared.query.Query.TheVariants as queries
use Rattle.sip_vector.specs.declared.update.Side.{Side}
use Rattle.sip_vector.specs.declared.update.Side.TheVariants.{First, Second}
use Rattle.sip_vector.specs.declared.update.Update.{Update}
use Rattle.sip_vector.specs.Answers.{is_within}
use Rattle.sip_vector.specs.Extensions.{ones}
use Rattle.sip_vector.specs.Streams.{same_side, of_side, most_weight, weight, frequency, vector, IsLegal}
use Rattle.sip_vector.proofs.Sides.{length-vector}
use Rattle.sip_vector.proofs.Sums.{nat_abs-add-le}
use Rattle.sip_wire.specs.Table.{most_claim}
use Rattle.sip_sums.specs.AcceptsSum.{total}
use Rattle.sip_sums.specs.Questions.{Lists, lists_of}

-- ---- the numbers of a stream weigh no more than its updates

abbrev sizes : (ℕ → ℤ) → ℕ → ℕ → ℕ
sizes g k n = sum_by nat_abs (map g (range_with_len k n))

-- numbers that are the same from k on
same_sizes : (g h : ℕ → ℤ) (k n : ℕ) → ((i : ℕ) → k ≤ i → g i ≡ h i) → sizes g k n ≡ sizes h k n
same_sizes g h k zero same = refl
same_sizes g h k (suc n) same =
    let here : nat_abs (g k) ≡ nat_abs (h k) = ap nat_abs (same k (omega arith)) in
    let rest = same_sizes g h (k + 1) n (λ i le. same i (omega arith)) in
    omega (arith, sum_by-cons nat_abs (g k) (map g (range_with_len (k + 1) n)), sum_by-cons nat_abs (h k) (map h (range_with_len (k + 1) n)))

-- numbers of which one is greater by at most m
more_sizes : (g h : ℕ → ℤ) (place m k n : ℕ) → ((i : ℕ) → i ≢ place → g i ≡ h i) → nat_abs (g place) ≤ nat_abs (h place) + m → sizes g k n ≤ sizes h k n + m
more_sizes g h place m k zero same more = omega arith
more_sizes g h place m k (suc n) same more =
    let left = sum_by-cons nat_abs (g k) (map g (range_with_len (k + 1) n)) in
    let right = sum_by-cons nat_abs (h k) (map h (range_with_len (k + 1) n)) in
    elim (cases_eq k place) [
      | inl e ↦
          let rest = same_sizes g h (k + 1) n (λ i le. same i (λ f. absurd (omega arith))) in
          let here : nat_abs (g k) ≤ nat_abs (h k) + m = subst (λ (i : ℕ). nat_abs (g i) ≤ nat_abs (h i) + m) (sym e) more in
          omega (arith, rest, here, left, right)
      | inr ne ↦
          let here : nat_abs (g k) ≡ nat_abs (h k) = ap nat_abs (same k ne) in
          let rest = more_sizes g h place m (k + 1) n same more in
          omega (arith, left, right)
    ]

abbrev delta_size : Update → ℕ
delta_size u = nat_abs u.delta

-- an update of the other side
other_side : (u : Update) (s : List Update) (side : Side) (i : ℕ) → same_side u.side side ≡ false → frequency (u ∷ s) side i ≡ frequency s side i
other_side u s side i other = elim (cases_Bool (u.item == i)) [
  | inl a ↦ rw (a, other) refl
  | inr a ↦ rw a refl
]

-- one of the side changes the number at its item
other_item : (u : Update) (s : List Update) (side : Side) (i : ℕ) → i ≢ u.item → frequency (u ∷ s) side i ≡ frequency s side i
other_item u s side i other =
    let differ : eqb u.item i ≡ false = ne_eqb u.item i (λ e. other (sym e)) in
    rw differ refl

one_item : (u : Update) (s : List Update) (side : Side) → nat_abs (frequency (u ∷ s) side u.item) ≤ nat_abs (frequency s side u.item) + delta_size u
one_item u s side = elim (cases_Bool (u.item == u.item)) [
  | inl a ↦ elim (cases_Bool (same_side u.side side)) [
    | inl b ↦ rw (a, b) (omega (arith, nat_abs-add-le u.delta (frequency s side u.item)))
    | inr b ↦ rw (a, b) (omega arith)
  ]
  | inr a ↦ rw a (omega arith)
]

numbers_light : (s : List Update) (side : Side) (k n : ℕ) → sizes (frequency s side) k n ≤ weight s side
numbers_light [] side k n =
    let none = same_sizes (frequency [] side) (λ _. pos 0) k n (λ i le. refl) in
    omega (arith, zeros k n)
  where
    zeros : (k n : ℕ) → sizes (λ _. pos 0) k n ≡ 0
    zeros k zero = refl
    zeros k (suc n) = omega (arith, zeros (k + 1) n, sum_by-cons nat_abs (pos 0) (map (λ _. pos 0) (range_with_len (k + 1) n)))
numbers_light (u ∷ s) side k n =
    let rest = numbers_light s side k n in
    elim (cases_Bool (same_side u.side side)) [
      | inl b ↦
          let more = more_sizes (frequency (u ∷ s) side) (frequency s side) u.item (delta_size u) k n (other_item u s side) (one_item u s side) in
          let whole : weight (u ∷ s) side ≡ delta_size u + weight s side = rw b (sum_by-cons delta_size u (of_side s side)) in
          omega arith
      | inr b ↦
          let same = same_sizes (frequency (u ∷ s) side) (frequency s side) k n (λ i le. other_side u s side i b) in
          let whole : weight (u ∷ s) side ≡ weight s side = rw b refl in
          omega arith
    ]

vector_light : (d : ℕ) (s : List Update) (side : Side) → sum_by nat_abs (vector d s side) ≤ weight s side
vector_light d s side = numbers_light s side 0 (2 ^ d)

-- ---- sums of products

abbrev AreAtMost : ℕ → List ℤ → Type 0
AreAtMost m = All (λ z. nat_abs z ≤ m)

-- each number is at most the sum of all sizes
all_at_most : (xs : List ℤ) (m : ℕ) → sum_by nat_abs xs ≤ m → AreAtMost m xs
all_at_most [] m le = All-nil (λ z. nat_abs z ≤ m)
all_at_most (x ∷ xs) m le =
    let whole = sum_by-cons nat_abs x xs in
    All-cons (λ z. nat_abs z ≤ m) x xs (omega arith) (all_at_most xs m (omega arith))

size_of_product : (x y : ℤ) → nat_abs (x *ℤ y) ≡ nat_abs x * nat_abs y
size_of_product x y = unsigned_abs-mul x y

-- a sum of products is at most the sum of the sizes of one list times a bound of the other
pub total_small : (xs ys : List ℤ) (m : ℕ) → AreAtMost m ys → nat_abs (total xs ys) ≤ sum_by nat_abs xs * m
total_small [] ys m small = omega arith
total_small (x ∷ xs) [] m small = omega arith
total_small (x ∷ xs) (y ∷ ys) m small =
    let P : ℤ → Type 0 = λ z. nat_abs z ≤ m in
    let rest = total_small xs ys m (All-tail P y ys small) in
    let here : nat_abs (x *ℤ y) ≤ nat_abs x * m = subst (λ k. k ≤ nat_abs x * m) (sym (size_of_product x y)) (mul-le-mul_left (nat_abs x) (All-head P y ys small)) in
    let whole : sum_by nat_abs (x ∷ xs) * m ≡ (nat_abs x + sum_by nat_abs xs) * m = ap (λ k. k * m) (sum_by-cons nat_abs x xs) in
    omega (arith, nat_abs-add-le (x *ℤ y) (total xs ys))

-- ---- the lists of queries

at_most_one : (b : Bool) → nat_abs (cond b (pos 1) (pos 0)) ≤ 1
at_most_one true = omega arith
at_most_one false = omega arith

-- the entries of an interval are 0 or 1
ones_small : (d lo hi : ℕ) → AreAtMost most_weight (ones d lo hi)
ones_small d lo hi =
    All-map (λ z. nat_abs z ≤ most_weight) (λ i. cond (is_within lo hi i) (pos 1) (pos 0)) (range_with_len 0 (2 ^ d))
    (everywhere (λ (i : ℕ). nat_abs (cond (is_within lo hi i) (pos 1) (pos 0)) ≤ most_weight) (range_with_len 0 (2 ^ d)) (λ i. omega (arith, at_most_one (is_within lo hi i))))

-- the lists have a number for each item, and their sum of products is small
pub record AreSmall (d : ℕ) (l : Lists) : Type 0 where
  pub first : length l.first ≡ 2 ^ d
  pub second : length l.second ≡ 2 ^ d
  pub fits : nat_abs (total l.first l.second) ≤ most_claim

light : (d : ℕ) (stream : List Update) (side : Side) → IsLegal d stream → sum_by nat_abs (vector d stream side) ≤ most_weight
light d stream First legal = omega (arith, vector_light d stream First, legal.first)
light d stream Second legal = omega (arith, vector_light d stream Second, legal.second)

small : (xs ys : List ℤ) → sum_by nat_abs xs ≤ most_weight → AreAtMost most_weight ys → nat_abs (total xs ys) ≤ most_claim
small xs ys some most =
    let room : most_weight * most_weight ≤ most_claim = omega arith in
    let product : sum_by nat_abs xs * most_weight ≤ most_weight * most_weight = mul-le-mul some (le_refl most_weight) in
    omega (arith, total_small xs ys most_weight most)

of_lists : (d : ℕ) (l k : Lists) → ◌≡◌ {A = Option Lists} (Some l) (Some k) → AreSmall d l → AreSmall d k
of_lists d l k e = subst (AreSmall d) (let same : l ≡ k = cc in same)

-- so are those of each query for a sum
pub legal_small : (d : ℕ) (stream : List Update) (q : Query) (l : Lists) → IsLegal d stream → lists_of d stream q ≡ Some l → AreSmall d l
legal_small d stream (queries.F2 side) l legal is =
    of_lists d _ l is (record {
      first = length-vector d stream side;
      second = length-vector d stream side;
      fits = small (vector d stream side) (vector d stream side) (light d stream side legal) (all_at_most (vector d stream side) most_weight (light d stream side legal));
    })
legal_small d stream queries.Inner l legal is =
    of_lists d _ l is (record {
      first = length-vector d stream First;
      second = length-vector d stream Second;
      fits = small (vector d stream First) (vector d stream Second) (light d stream First legal) (all_at_most (vector d stream Second) most_weight (light d stream Second legal));
    })
legal_small d stream (queries.Range side lo hi) l legal is =
    of_lists d _ l is (record {
      first = length-vector d stream side;
      second = length-map-range_with_len (λ i. cond (is_within lo hi i) (pos 1) (pos 0)) 0 (2 ^ d);
      fits = small (vector d stream side) (ones d lo hi) (light d stream side legal) (ones_small d lo hi);
    })
legal_small d stream (queries.Sub lo hi) l legal is = absurd (cc)
legal_small d stream (queries.Heavy side at_least) l legal is = absurd (cc)
legal_small d stream (queries.Share side num den) l legal is = absurd (cc)
legal_small d stream (queries.Above side at_least) l legal is = absurd (cc)
