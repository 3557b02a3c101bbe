-- The numbers of a legal stream weigh no more than its updates, so where a claim has room for a
-- power of the weight it has room for the moment.
use Rattle.std.proofs.Common.{◌≡◌, ℕ, ◌+◌, ◌^◌, ◌<◌, ◌≤◌, false, ℤ, pos, nat_abs, ◌+ℤ◌, List, [], ◌∷◌, ◌++◌, length, set, get_or, sum_by, All, inl, inr, sym, subst, arith, append_assoc, append-nil}
use Rattle.std.specs.Prelude.{nat_lt}
use Rattle.std.proofs.lemmas.Bool.{cases_Bool}
use Rattle.std.proofs.lemmas.Bool.Decides.{nat_tests}
use Rattle.std.proofs.lemmas.List.Elements.{All-head, All-tail}
use Rattle.std.proofs.lemmas.List.Sums.{sum_by-set}
use Rattle.sip_vector.specs.declared.update.Side.{Side}
use Rattle.sip_vector.specs.declared.update.Update.{Update}
use Rattle.sip_vector.specs.Streams.{IsLegal, same_side, vector, weight}
use Rattle.sip_vector.specs.Vectors.{number_at}
use Rattle.sip_vector.proofs.Sides.{length-vector, vector-nil, vector-other_side, vector-same_side, weight-append, weight-one, weight-one_other_side}
use Rattle.sip_vector.proofs.Sums.{nat_abs-add-le, sum_by-zeros}
use Rattle.sip_wire.specs.Table.{most_claim}
use Rattle.sip_moments.specs.declared.moment.Moment.{Moment}
use Rattle.sip_moments.specs.Manner.{CanBeCounted, answer, numbers_of}
use Rattle.sip_moments.proofs.PowerSums.{moment-light}

module _ (depth : ℕ) (side : Side) where
  abbrev IsLight : List Update → Type 0
  IsLight s = sum_by nat_abs (vector depth s side) ≤ weight s side

  -- one number is another one
  raised : (xs : List ℤ) (i : ℕ) (d : ℤ) → i < length xs
      → sum_by nat_abs (set xs i (number_at xs i +ℤ d)) ≤ sum_by nat_abs xs + nat_abs d
  raised xs i d inside =
      let is = sum_by-set nat_abs xs i (number_at xs i +ℤ d) (pos 0) inside in
      let grows : nat_abs (get_or xs i (pos 0) +ℤ d) ≤ nat_abs (get_or xs i (pos 0)) + nat_abs d =
      nat_abs-add-le (get_or xs i (pos 0)) d in
      omega (arith, is, grows)

  one_more : (s : List Update) (u : Update) → u.item < 2 ^ depth → IsLight s → IsLight (s ++ u ∷ [])
  one_more s u inside light =
      let sum = weight-append s (u ∷ []) side in
      elim (cases_Bool (same_side u.side side)) [
        | inl own ↦
            let within : u.item < length (vector depth s side) =
            omega (arith, inside, length-vector depth s side) in
            rw (vector-same_side depth s u side own)
            (omega (arith, raised (vector depth s side) u.item u.delta within, sum, weight-one u side own, light))
        | inr other ↦
            rw (vector-other_side depth s u side other)
            (omega (arith, sum, weight-one_other_side u side other, light))
      ]

  all_more : (done rest : List Update) → All (λ u. u.item < 2 ^ depth) rest → IsLight done
      → IsLight (done ++ rest)
  all_more done [] inside light = subst IsLight (sym (append-nil done)) light
  all_more done (u ∷ rest) inside light =
      subst IsLight (append_assoc done (u ∷ []) rest)
      (all_more (done ++ u ∷ []) rest (All-tail (λ v. v.item < 2 ^ depth) u rest inside)
      (one_more done u (All-head (λ v. v.item < 2 ^ depth) u rest inside) light))

  pub vector_light : (stream : List Update) → All (λ u. u.item < 2 ^ depth) stream
      → sum_by nat_abs (vector depth stream side) ≤ weight stream side
  vector_light stream inside = all_more [] stream inside nothing
    where
      nothing : IsLight []
      nothing = rw (vector-nil depth side) (omega (arith, sum_by-zeros (2 ^ depth)))

-- a power that is not too high fits
low_fits : (n : ℕ) → nat_lt most_claim n ≡ false → n ≤ most_claim
low_fits n low = grind (arith, nat_tests)

-- a claim has room for a moment that can be counted
pub moment_fits : (depth : ℕ) (stream : List Update) (m : Moment) → IsLegal depth stream
    → CanBeCounted stream m → nat_abs (answer depth stream m) ≤ most_claim
moment_fits depth stream m legal can =
    let some : 1 ≤ m.degree = omega (arith, can.degree.least) in
    let light = vector_light depth m.side stream legal.items in
    omega (
      arith,
      moment-light m.degree (weight stream m.side) (numbers_of depth stream m) some light,
      low_fits (weight stream m.side ^ m.degree) can.low,
    )
