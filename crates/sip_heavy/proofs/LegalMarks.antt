-- The values of a legal stream are within its weights, and small.
use Rattle.std.proofs.Common.{◌≡◌, ℕ, ◌+◌, ◌-◌, ◌/◌, ◌<◌, ◌≤◌, ◌^◌, pos, ◌+ℤ◌, nat_abs, List, [], ◌∷◌, map, length, All, refl, ap, sym, ◌∙◌, arith, inl, inr}
use Rattle.std.specs.Prelude.{◌==◌}
use Rattle.std.specs.List.{range_with_len, zip}
use Rattle.std.proofs.lemmas.Int.{ints}
use Rattle.std.proofs.lemmas.Bool.{cases_Bool}
use Rattle.std.proofs.lemmas.List.Elements.{All-nil, All-cons}
use Rattle.std.proofs.lemmas.List.Sums.{sum_by-cons}
use Rattle.sip_field.specs.Moduli.{m61_modulus}
use Rattle.sip_vector.specs.declared.update.Side.{Side}
use Rattle.sip_vector.specs.declared.update.Update.{Update}
use Rattle.sip_vector.specs.Splits.{absolute, weights}
use Rattle.sip_vector.specs.Streams.{int_sum, of_side, same_side, frequency, weight, most_weight, vector, IsLegal}
use Rattle.sip_vector.proofs.Sides.{length-vector}
use Rattle.sip_vector.proofs.Splits.{weights_sum}
use Rattle.sip_vector.proofs.Sums.{nat_abs-add-le}
use Rattle.sip_heavy.specs.Counting.{IsWeighed, AreWeighed}
use Rattle.sip_heavy.specs.Protocol.{count_of}
use Rattle.sip_heavy.proofs.LegalSums.{side_light}

-- an item's weight is a count, no less than its value's size and no more than the side's weight
record Weighs (s : List Update) (side : Side) (i : ℕ) : Type 0 where
  n : ℕ
  counts : frequency (map absolute s) side i ≡ pos n
  within : nat_abs (frequency s side i) ≤ n
  most : n ≤ weight s side

weighs : (side : Side) (i : ℕ) (s : List Update) → Weighs s side i
weighs side i [] = record { n = 0; counts = refl; within = omega arith; most = omega arith }
weighs side i (u ∷ s) =
    let ih = weighs side i s in
    elim (cases_Bool (same_side u.side side)) [
      | inl t ↦
          let all : weight (u ∷ s) side ≡ nat_abs u.delta + weight s side = rw t (sum_by-cons (λ (w : Update). nat_abs w.delta) u (of_side s side)) in
          elim (cases_Bool (u.item == i)) [
            | inl e ↦
                let value : frequency (u ∷ s) side i ≡ u.delta +ℤ frequency s side i = rw (e, t) refl in
                let count : frequency (map absolute (u ∷ s)) side i ≡ pos (nat_abs u.delta) +ℤ frequency (map absolute s) side i = rw (e, t) refl in
                record {
                  n = nat_abs u.delta + ih.n;
                  counts = count ∙ ap (λ z. pos (nat_abs u.delta) +ℤ z) ih.counts;
                  within = omega (arith, ap nat_abs value, nat_abs-add-le u.delta (frequency s side i), ih.within);
                  most = omega (arith, all, ih.most);
                }
            | inr e ↦
                let value : frequency (u ∷ s) side i ≡ frequency s side i = rw e refl in
                let count : frequency (map absolute (u ∷ s)) side i ≡ frequency (map absolute s) side i = rw e refl in
                record {
                  n = ih.n;
                  counts = count ∙ ih.counts;
                  within = omega (arith, ap nat_abs value, ih.within);
                  most = omega (arith, all, ih.most);
                }
          ]
      | inr t ↦
          let all : weight (u ∷ s) side ≡ weight s side = rw t refl in
          let value : frequency (u ∷ s) side i ≡ frequency s side i = elim (cases_Bool (u.item == i)) [ inl e ↦ rw (e, t) refl | inr e ↦ rw e refl ] in
          let count : frequency (map absolute (u ∷ s)) side i ≡ frequency (map absolute s) side i = elim (cases_Bool (u.item == i)) [ inl e ↦ rw (e, t) refl | inr e ↦ rw e refl ] in
          record { n = ih.n; counts = count ∙ ih.counts; within = omega (arith, ap nat_abs value, ih.within); most = omega (arith, all, ih.most) }
    ]

weighed_at : (s : List Update) (side : Side) (i : ℕ) → weight s side ≤ most_weight → IsWeighed m61_modulus (frequency s side i) (frequency (map absolute s) side i)
weighed_at s side i light =
    let w = weighs side i s in
    let room : most_weight ≤ (m61_modulus - 1) / 2 = omega arith in
    record {
      within = rw w.counts (omega (arith, ints, w.within));
      small = omega (arith, w.within, w.most, light, room);
    }

weighed_over : (s : List Update) (side : Side) → weight s side ≤ most_weight → (items : List ℕ) → All (λ x. IsWeighed m61_modulus x.0 x.1) (zip (map (frequency s side) items) (map (frequency (map absolute s) side) items))
weighed_over s side light [] = All-nil (λ x. IsWeighed m61_modulus x.0 x.1)
weighed_over s side light (i ∷ items) =
    All-cons (λ x. IsWeighed m61_modulus x.0 x.1) (frequency s side i, frequency (map absolute s) side i) (zip (map (frequency s side) items) (map (frequency (map absolute s) side) items))
    (weighed_at s side i light) (weighed_over s side light items)

pub legal_weighed : (depth : ℕ) (stream : List Update) (side : Side) → IsLegal depth stream → AreWeighed m61_modulus (vector depth stream side) (weights depth stream side)
legal_weighed depth stream side legal = weighed_over stream side (side_light depth stream side legal) (range_with_len 0 (2 ^ depth))

pub legal_weight : (depth : ℕ) (stream : List Update) (side : Side) → IsLegal depth stream → count_of (int_sum (weights depth stream side)) < m61_modulus
legal_weight depth stream side legal =
    let same : weight stream side ≡ count_of (int_sum (weights depth stream side)) = ap count_of (weights_sum depth stream side legal.items) in
    let bound : most_weight < m61_modulus = omega arith in
    omega (arith, same, side_light depth stream side legal, bound)

pub long_weights : (depth : ℕ) (stream : List Update) (side : Side) → length (weights depth stream side) ≡ 2 ^ depth
long_weights depth stream side = length-vector depth (map absolute stream) side

pub same_length : (depth : ℕ) (stream : List Update) (side : Side) → length (vector depth stream side) ≡ length (weights depth stream side)
same_length depth stream side = length-vector depth stream side ∙ sym (long_weights depth stream side)
