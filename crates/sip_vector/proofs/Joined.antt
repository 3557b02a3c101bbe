-- What is told of two streams, one behind the other.
use Rattle.std.proofs.Common.{◌≡◌, ◌≢◌, ℕ, zero, suc, ◌+◌, ◌%◌, ◌^◌, ◌<◌, ◌≤◌, true, false, ◌||◌, ℤ, pos, negsuc, nat_abs, List, [], ◌∷◌, ◌++◌, length, take, get_or, refl, sym, ap, ◌∙◌, All, inl, inr, arith, length-append}
use Rattle.std.specs.Prelude.{int_lt}
use Rattle.std.specs.List.{list_any}
use Rattle.std.proofs.Math.Seq.{take-suc}
use Rattle.std.proofs.lemmas.Bool.{cases_Bool}
use Rattle.std.proofs.lemmas.Int.{ints}
use Rattle.std.proofs.lemmas.List.Elements.{filter-append, All-head, All-tail}
use Rattle.std.proofs.lemmas.List.Folds.{list_any-append}
use Rattle.std.proofs.lemmas.List.Sums.{sum_by-append}
use Rattle.sip_vector.specs.declared.update.Side.{Side}
use Rattle.sip_vector.specs.declared.update.Side.TheVariants.{First, Second}
use Rattle.sip_vector.specs.declared.update.Update.{Update}
use Rattle.sip_vector.specs.Fingerprints.{share, fingerprint}
use Rattle.sip_vector.specs.Streams.{same_side, of_side, weight, IsLegal}
use Rattle.sip_vector.specs.Tallies.{has_negative, negatives, tally, either, joined, IsSound}
use Rattle.sip_vector.proofs.Sides.{weight-append, weight-one}

has_negative-append : (s t : List Update) (side : Side) → has_negative (s ++ t) side ≡ (has_negative s side || has_negative t side)
has_negative-append s t side =
    ap (list_any (λ (u : Update). int_lt u.delta (pos 0))) (filter-append (λ (u : Update). same_side u.side side) s t)
    ∙ list_any-append (λ (u : Update). int_lt u.delta (pos 0)) (of_side s side) (of_side t side)

pub negatives-append : (s t : List Update) → negatives (s ++ t) ≡ either (negatives s) (negatives t)
negatives-append s t = rw (has_negative-append s t First, has_negative-append s t Second) refl

pub fingerprint-append : (s t : List Update) → fingerprint (s ++ t) ≡ (fingerprint s + fingerprint t) % 2 ^ 64
fingerprint-append s t = omega (arith, sum_by-append share s t)

pub tally-append : (s t : List Update) → tally (s ++ t) ≡ joined (tally s) (tally t)
tally-append s t =
    rw (length-append s t, weight-append s t First, weight-append s t Second, negatives-append s t, fingerprint-append s t) refl

-- a stream up to one update more
pub more : (s : List Update) (i : ℕ) (u : Update) → i < length s → take (i + 1) s ≡ take i s ++ get_or s i u ∷ []
more s i u below = ap (λ n. take n s) (let e : i + 1 ≡ suc i = omega arith in e) ∙ take-suc s i u below

-- ---- a legal stream

-- each update weighs something
some_size : (d : ℤ) → d ≢ pos 0 → 1 ≤ nat_abs d
some_size d other = omega (arith, ints)

counted_one : (u : Update) (own : Side) → u.side ≡ own → u.delta ≢ pos 0 → 1 ≤ weight (u ∷ []) First + weight (u ∷ []) Second
counted_one u First is some = omega (arith, weight-one u First (ap (λ s. same_side s First) is), some_size u.delta some)
counted_one u Second is some = omega (arith, weight-one u Second (ap (λ s. same_side s Second) is), some_size u.delta some)

counted : (s : List Update) → All (λ u. u.delta ≢ pos 0) s → length s ≤ weight s First + weight s Second
counted [] some = omega arith
counted (u ∷ s) some =
    let one = counted_one u u.side refl (All-head (λ (v : Update). v.delta ≢ pos 0) u s some) in
    let others = counted s (All-tail (λ (v : Update). v.delta ≢ pos 0) u s some) in
    omega (arith, one, others, weight-append (u ∷ []) s First, weight-append (u ∷ []) s Second)

-- and so does a delta below 0
negative_size : (d : ℤ) → (int_lt d (pos 0) || false) ≡ true → 1 ≤ nat_abs d
negative_size (pos zero) below = absurd (cc)
negative_size (pos (suc n)) below = omega arith
negative_size (negsuc n) below = omega arith

weighs_one : (u : Update) (side : Side) → has_negative (u ∷ []) side ≡ true → 1 ≤ weight (u ∷ []) side
weighs_one u side some = elim (cases_Bool (same_side u.side side)) [
  | inl same ↦ omega (arith, weight-one u side same, negative_size u.delta (rw same at some))
  | inr other ↦ absurd (let none : false ≡ true = rw other at some in cc)
]

weighs : (s : List Update) (side : Side) → has_negative s side ≡ true → 1 ≤ weight s side
weighs [] side some = absurd (cc)
weighs (u ∷ s) side some =
    let either_has : (has_negative (u ∷ []) side || has_negative s side) ≡ true = sym (has_negative-append (u ∷ []) s side) ∙ some in
    elim (cases_Bool (has_negative (u ∷ []) side)) [
      | inl here ↦ omega (arith, weight-append (u ∷ []) s side, weighs_one u side here)
      | inr none ↦ omega (arith, weight-append (u ∷ []) s side, weighs s side (rw none at either_has))
    ]

pub legal_sound : (depth : ℕ) (s : List Update) → IsLegal depth s → IsSound (tally s)
legal_sound depth s legal = record {
  count = counted s legal.deltas;
  first = legal.first;
  second = legal.second;
  first_negative = weighs s First;
  second_negative = weighs s Second;
}
