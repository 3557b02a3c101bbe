-- The weights of the items of a stream.
use Rattle.std.proofs.Common.{◌≡◌, ℕ, ◌^◌, ◌<◌, true, false, pos, nat_abs, List, [], ◌∷◌, ◌++◌, map, refl, ◌∙◌, ap, inl, inr, arith}
use Rattle.std.specs.Prelude.{◌≤ℤ◌, All}
use Rattle.std.specs.List.{range_with_len}
use Rattle.std.proofs.lemmas.Bool.{cases_Bool}
use Rattle.std.proofs.lemmas.Bool.Decides.{eqb_tells}
use Rattle.std.proofs.lemmas.Int.{ints}
use Rattle.std.proofs.lemmas.List.{map-append}
use Rattle.std.proofs.lemmas.List.Elements.{All-map}
use Rattle.std.proofs.lemmas.List.Sums.{sum_by-cons}
use Rattle.sip_vector.specs.Lines.{added_numbers}
use Rattle.sip_vector.specs.Splits.{absolute, weights}
use Rattle.sip_vector.specs.Streams.{int_sum, same_side, of_side, total, weight, frequency, vector}
use Rattle.sip_vector.specs.Weights.{raised_numbers}
use Rattle.sip_vector.specs.declared.update.Side.{Side}
use Rattle.sip_vector.specs.declared.update.Update.{Update}
use Rattle.sip_vector.proofs.Sides.{vector-same_side, vector-other_side, total-is}
use Rattle.sip_vector.proofs.Lines.{vector_joined}

pub weights_joined : (depth : ℕ) (s t : List Update) (side : Side) → weights depth (s ++ t) side ≡ added_numbers (weights depth s side) (weights depth t side)
weights_joined depth s t side = ap (λ r. vector depth r side) (map-append absolute s t) ∙ vector_joined depth (map absolute s) (map absolute t) side

pub weights_raised : (depth : ℕ) (s : List Update) (u : Update) (side : Side) → same_side u.side side ≡ true
    → weights depth (s ++ u ∷ []) side ≡ raised_numbers (weights depth s side) u.item (pos (nat_abs u.delta))
weights_raised depth s u side same = ap (λ r. vector depth r side) (map-append absolute s (u ∷ [])) ∙ vector-same_side depth (map absolute s) (absolute u) side same

pub weights_kept : (depth : ℕ) (s : List Update) (u : Update) (side : Side) → same_side u.side side ≡ false → weights depth (s ++ u ∷ []) side ≡ weights depth s side
weights_kept depth s u side other = ap (λ r. vector depth r side) (map-append absolute s (u ∷ [])) ∙ vector-other_side depth (map absolute s) (absolute u) side other

total_absolute : (s : List Update) (side : Side) → pos (weight s side) ≡ total (map absolute s) side
total_absolute [] side = refl
total_absolute (u ∷ s) side = elim (cases_Bool (same_side u.side side)) [
  | inl same ↦ rw (same, sum_by-cons (λ (v : Update). nat_abs v.delta) u (of_side s side)) (omega (arith, ints, total_absolute s side))
  | inr other ↦ rw other (total_absolute s side)
]

-- the sum of the weights is the weight of the side
pub weights_sum : (depth : ℕ) (s : List Update) (side : Side) → All (λ (u : Update). u.item < 2 ^ depth) s → pos (weight s side) ≡ int_sum (weights depth s side)
weights_sum depth s side within =
    total_absolute s side ∙ total-is depth (map absolute s) side (All-map (λ (u : Update). u.item < 2 ^ depth) absolute s within)

-- no weight is negative
frequency_absolute : (s : List Update) (side : Side) (item : ℕ) → pos 0 ≤ℤ frequency (map absolute s) side item
frequency_absolute [] side item = omega (arith, ints)
frequency_absolute (u ∷ s) side item = elim (eqb_tells u.item item) [
  | inl t ↦ rw t.0 (elim (cases_Bool (same_side u.side side)) [
    | inl same ↦ rw same (omega (arith, ints, frequency_absolute s side item))
    | inr other ↦ rw other (frequency_absolute s side item)
  ])
  | inr t ↦ rw t.0 (frequency_absolute s side item)
]

pub weights_positive : (depth : ℕ) (s : List Update) (side : Side) → All (λ w. pos 0 ≤ℤ w) (weights depth s side)
weights_positive depth s side =
    All-map (λ w. pos 0 ≤ℤ w) (frequency (map absolute s) side) (range_with_len 0 (2 ^ depth)) (λ k d below. frequency_absolute s side _)
