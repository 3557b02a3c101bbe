-- The vector of one side of a stream, as updates are added to it.
use Rattle.std.proofs.Common.{◌≡◌, ℕ, zero, suc, ◌+◌, ◌^◌, ◌<◌, true, false, ◌==◌, eqb, List, [], ◌∷◌, ◌++◌, length, get_or, set, map, filter, fold, replicate, append_assoc, ℤ, pos, ◌+ℤ◌, nat_abs, refl, sym, ap, ◌∙◌, inl, inr, All, arith}
use Rattle.std.specs.List.{range_with_len}
use Rattle.std.proofs.lemmas.Bool.{cases_Bool}
use Rattle.std.proofs.lemmas.Bool.Decides.{eqb_tells}
use Rattle.std.proofs.lemmas.Int.{ints}
use Rattle.std.proofs.lemmas.List.{append-nil, length-set, map-append, ext_get_or, get_or-set_same, get_or-set_other}
use Rattle.std.proofs.lemmas.List.Elements.{filter-append, All-head, All-tail}
use Rattle.std.proofs.lemmas.List.Sums.{sum_by-append}
use Rattle.std.proofs.lemmas.List.FromFn.{length-map-range_with_len, get_or-map-range_with_len}
use Rattle.sip_vector.specs.declared.update.Side.{Side}
use Rattle.sip_vector.specs.declared.update.Update.{Update}
use Rattle.sip_vector.specs.Streams.{int_sum, same_side, of_side, total, weight, frequency, vector}
use Rattle.sip_vector.specs.Vectors.{number_at, zeros, with_update, side_vector, zero_vector}
use Rattle.sip_vector.proofs.Kept.{same_parts}
use Rattle.sip_vector.proofs.Sums.{int_sum-append, int_sum-set, int_sum-zeros}

-- the total of two streams, one after the other, is the sum
pub total-append : (s t : List Update) (side : Side) → total (s ++ t) side ≡ total s side +ℤ total t side
total-append s t side =
    rw (filter-append (λ (u : Update). same_side u.side side) s t, map-append (λ (u : Update). u.delta) (of_side s side) (of_side t side))
    (int_sum-append (map (λ (u : Update). u.delta) (of_side s side)) (map (λ (u : Update). u.delta) (of_side t side)))

-- and so is that of an item
pub frequency-append : (s t : List Update) (side : Side) (item : ℕ) → frequency (s ++ t) side item ≡ frequency s side item +ℤ frequency t side item
frequency-append s t side item =
    rw (filter-append (λ (u : Update). u.item == item) s t)
    (total-append (filter (λ (u : Update). u.item == item) s) (filter (λ (u : Update). u.item == item) t) side)

-- the weight of two streams, one after the other, is that of both
pub weight-append : (s t : List Update) (side : Side) → weight (s ++ t) side ≡ weight s side + weight t side
weight-append s t side =
    rw (filter-append (λ (u : Update). same_side u.side side) s t)
    (sum_by-append (λ (u : Update). nat_abs u.delta) (of_side s side) (of_side t side))

pub length-vector : (depth : ℕ) (s : List Update) (side : Side) → length (vector depth s side) ≡ 2 ^ depth
length-vector depth s side = length-map-range_with_len (frequency s side) 0 (2 ^ depth)

number_at-vector : (depth : ℕ) (s : List Update) (side : Side) (i : ℕ) → i < 2 ^ depth → number_at (vector depth s side) i ≡ frequency s side i
number_at-vector depth s side i below = get_or-map-range_with_len (frequency s side) 0 (2 ^ depth) i i (pos 0) below (omega arith)

-- ---- one update: of the other side, of the side at another item, and of the side at the item

frequency-one_other_side : (u : Update) (side : Side) (item : ℕ) → same_side u.side side ≡ false → frequency (u ∷ []) side item ≡ pos 0
frequency-one_other_side u side item other = elim (eqb_tells u.item item) [
  | inl t ↦ rw t.0 (rw other refl)
  | inr t ↦ rw t.0 refl
]

frequency-one_other_item : (u : Update) (side : Side) (item : ℕ) → eqb u.item item ≡ false → frequency (u ∷ []) side item ≡ pos 0
frequency-one_other_item u side item other = rw other refl

frequency-one : (u : Update) (side : Side) (item : ℕ) → same_side u.side side ≡ true → eqb u.item item ≡ true → frequency (u ∷ []) side item ≡ u.delta
frequency-one u side item same here = rw here (rw same (omega (arith, ints)))

-- an update of the other side leaves the numbers
pub vector-other_side : (depth : ℕ) (s : List Update) (u : Update) (side : Side) → same_side u.side side ≡ false → vector depth (s ++ u ∷ []) side ≡ vector depth s side
vector-other_side depth s u side other =
    let len = length-vector depth s side in
    let len_more = length-vector depth (s ++ u ∷ []) side in
    ext_get_or (pos 0) (vector depth (s ++ u ∷ []) side) (vector depth s side) (omega arith) (λ i below.
    number_at-vector depth (s ++ u ∷ []) side i (omega arith)
    ∙ frequency-append s (u ∷ []) side i
    ∙ rw (frequency-one_other_side u side i other) (let e : frequency s side i +ℤ pos 0 ≡ frequency s side i = omega (arith, ints) in e)
    ∙ sym (number_at-vector depth s side i (omega arith)))

-- one of the side raises the number at its item
pub vector-same_side : (depth : ℕ) (s : List Update) (u : Update) (side : Side) → same_side u.side side ≡ true
    → vector depth (s ++ u ∷ []) side ≡ set (vector depth s side) u.item (number_at (vector depth s side) u.item +ℤ u.delta)
vector-same_side depth s u side same =
    let xs = vector depth s side in
    let x = number_at xs u.item +ℤ u.delta in
    let len = length-vector depth s side in
    let len_set = length-set xs u.item x in
    let len_more = length-vector depth (s ++ u ∷ []) side in
    ext_get_or (pos 0) (vector depth (s ++ u ∷ []) side) (set xs u.item x) (omega arith) (λ i below.
    number_at-vector depth (s ++ u ∷ []) side i (omega arith)
    ∙ frequency-append s (u ∷ []) side i
    ∙ at_place i (omega arith))
  where
    at_place : (i : ℕ) → i < 2 ^ depth → frequency s side i +ℤ frequency (u ∷ []) side i ≡ get_or (set (vector depth s side) u.item (number_at (vector depth s side) u.item +ℤ u.delta)) i (pos 0)
    at_place i below =
        let xs = vector depth s side in
        let x = number_at xs u.item +ℤ u.delta in
        let len = length-vector depth s side in
        let read = number_at-vector depth s side i below in
        elim (eqb_tells u.item i) [
          | inl t ↦
              let here : get_or (set xs u.item x) u.item (pos 0) ≡ x = get_or-set_same xs u.item x (pos 0) (omega (arith, t.1)) in
              rw (frequency-one u side i same t.0, ← t.1) (sym (here ∙ ap (λ n. n +ℤ u.delta) (rw t.1 read)))
          | inr t ↦
              let there : get_or (set xs u.item x) i (pos 0) ≡ get_or xs i (pos 0) = get_or-set_other xs u.item i x (pos 0) (λ e. t.1 (sym e)) in
              rw (frequency-one_other_item u side i t.0) (sym (there ∙ read ∙ (let e : frequency s side i ≡ frequency s side i +ℤ pos 0 = omega (arith, ints) in e)))
        ]

-- an update weighs nothing on the other side
pub weight-one_other_side : (u : Update) (side : Side) → same_side u.side side ≡ false → weight (u ∷ []) side ≡ 0
weight-one_other_side u side other = rw other refl

-- and as much as its delta on its own
pub weight-one : (u : Update) (side : Side) → same_side u.side side ≡ true → weight (u ∷ []) side ≡ nat_abs u.delta
weight-one u side same = rw same (omega arith)

-- ---- a stream of no updates, and one more

map-zero : (f : ℕ → ℤ) (a n : ℕ) → ((i : ℕ) → f i ≡ pos 0) → map f (range_with_len a n) ≡ replicate n (pos 0)
map-zero f a zero e = refl
map-zero f a (suc n) e = rw (e a) (ap (λ xs. pos 0 ∷ xs) (map-zero f (a + 1) n e))

-- before the stream there is nothing
pub vector-nil : (depth : ℕ) (side : Side) → vector depth [] side ≡ replicate (2 ^ depth) (pos 0)
vector-nil depth side = map-zero (frequency [] side) 0 (2 ^ depth) (λ i. refl)

pub side_vector-nil : (depth : ℕ) (side : Side) → side_vector depth [] side ≡ zero_vector depth
unfolding zeros
side_vector-nil depth side = same_parts depth _ _ 0 0 (vector-nil depth side) refl

pub side_vector-push : (depth : ℕ) (s : List Update) (u : Update) (side : Side) → side_vector depth (s ++ u ∷ []) side ≡ with_update side (side_vector depth s side) u
side_vector-push depth s u side = elim (cases_Bool (same_side u.side side)) [
  | inl same ↦ rw same (same_parts depth _ _ _ _ (vector-same_side depth s u side same) (weight-append s (u ∷ []) side ∙ ap (λ w. weight s side + w) (weight-one u side same)))
  | inr other ↦ rw other (same_parts depth _ _ _ _ (vector-other_side depth s u side other) (weight-append s (u ∷ []) side ∙ ap (λ w. weight s side + w) (weight-one_other_side u side other) ∙ omega arith))
]

folded_from : (depth : ℕ) (side : Side) (s t : List Update) → fold (with_update side) (side_vector depth s side) t ≡ side_vector depth (s ++ t) side
folded_from depth side s [] = ap (λ r. side_vector depth r side) (sym (append-nil s))
folded_from depth side s (u ∷ t) =
    ap (λ v. fold (with_update side) v t) (sym (side_vector-push depth s u side))
    ∙ folded_from depth side (s ++ u ∷ []) t
    ∙ ap (λ r. side_vector depth r side) (append_assoc s (u ∷ []) t)

-- the vector of a stream is what its updates add up to, one after another
pub fold-with_update : (depth : ℕ) (stream : List Update) (side : Side) → fold (with_update side) (zero_vector depth) stream ≡ side_vector depth stream side
fold-with_update depth stream side =
    ap (λ v. fold (with_update side) v stream) (sym (side_vector-nil depth side)) ∙ folded_from depth side [] stream

-- ---- the total

total-one_other_side : (u : Update) (side : Side) → same_side u.side side ≡ false → total (u ∷ []) side ≡ pos 0
total-one_other_side u side other = rw other refl

total-one : (u : Update) (side : Side) → same_side u.side side ≡ true → total (u ∷ []) side ≡ u.delta
total-one u side same = rw same (omega (arith, ints))

total-push : (depth : ℕ) (s : List Update) (u : Update) (side : Side) → u.item < 2 ^ depth → total s side ≡ int_sum (vector depth s side) → total (s ++ u ∷ []) side ≡ int_sum (vector depth (s ++ u ∷ []) side)
total-push depth s u side below e = elim (cases_Bool (same_side u.side side)) [
  | inl same ↦
      let len = length-vector depth s side in
      total-append s (u ∷ []) side ∙ rw (total-one u side same, e, vector-same_side depth s u side same) (sym (int_sum-set (vector depth s side) u.item u.delta (omega arith)))
  | inr other ↦
      total-append s (u ∷ []) side ∙ rw (total-one_other_side u side other, e, vector-other_side depth s u side other) (omega (arith, ints))
]

total-from : (depth : ℕ) (s t : List Update) (side : Side) → All (λ (u : Update). u.item < 2 ^ depth) t → total s side ≡ int_sum (vector depth s side) → total (s ++ t) side ≡ int_sum (vector depth (s ++ t) side)
total-from depth s [] side below e = rw (append-nil s) e
total-from depth s (u ∷ t) side below e =
    rw (← append_assoc s (u ∷ []) t) (total-from depth (s ++ u ∷ []) t side (All-tail (λ (u : Update). u.item < 2 ^ depth) u t below)
    (total-push depth s u side (All-head (λ (u : Update). u.item < 2 ^ depth) u t below) e))

-- the sum of a side's deltas is the sum of its vector
pub total-is : (depth : ℕ) (stream : List Update) (side : Side) → All (λ (u : Update). u.item < 2 ^ depth) stream → total stream side ≡ int_sum (vector depth stream side)
total-is depth stream side below = total-from depth [] stream side below (sym (rw (vector-nil depth side) (int_sum-zeros (2 ^ depth))))
