-- Additions that are sorted.
use Rattle.std.proofs.Common.{◌≡◌, ℕ, zero, suc, ◌<◌, ◌≤◌, Bool, true, false, ltb, filter, List, [], ◌∷◌, length, get_or, Some, None, slice_get, ℤ, pos, ◌+ℤ◌, refl, ap, inl, inr, arith}
use Rattle.std.proofs.lemmas.Bool.{cases_Bool}
use Rattle.std.proofs.lemmas.Bool.Decides.{nat_tests}
use Rattle.std.proofs.lemmas.Int.{ints}
use Rattle.std.specs.List.Sorted.{IsPartitionPoint}
use Rattle.sip_vector.specs.declared.update.Entry.{Entry}
use Rattle.sip_vector.specs.Answers.{is_within}
use Rattle.sip_vector.specs.inside.Gathered.{value_at, sum_at, abs_sum, IsBare}
use Rattle.sip_vector.specs.inside.Waits.{NeverFall}
use Rattle.sip_vector.proofs.Finds.{value_at-other, both_zero, is_below, not_below}

-- some of them are no heavier
pub abs_sum-filter : (p : Entry → Bool) (es : List Entry) → abs_sum (filter p es) ≤ abs_sum es
abs_sum-filter p [] = omega arith
abs_sum-filter p (e ∷ es) = elim (cases_Bool (p e)) [
  | inl t ↦ rw t (omega (arith, abs_sum-filter p es))
  | inr t ↦ rw t (omega (arith, abs_sum-filter p es))
]

only_others : (a b v : ℤ) → a ≡ b → v ≡ pos 0 → a ≡ v +ℤ b
only_others a b v e f = omega (arith, ints, e, f)

within_itself : (i k : ℕ) → k ≡ i → is_within i i k ≡ false → ⊥
within_itself i k same out = grind (arith, nat_tests)

-- those at an index add there what all do
pub sum_at-run : (es : List Entry) (i : ℕ) → sum_at (filter (λ e. is_within i i e.index) es) i ≡ sum_at es i
sum_at-run [] i = refl
sum_at-run (e ∷ es) i = elim (cases_Bool (is_within i i e.index)) [
  | inl t ↦ rw t (ap (λ z. value_at e i +ℤ z) (sum_at-run es i))
  | inr t ↦ rw t (only_others _ _ _ (sum_at-run es i) (value_at-other e i (λ same. within_itself i e.index same t)))
]

-- none adds anything below all of their indices
bare-above : (es : List Entry) (from next : ℕ) → ((j : ℕ) (d : Entry) → j < length es → next ≤ (get_or es j d).index) → IsBare es from next
bare-above [] from next above k le lt = refl
bare-above (e ∷ es) from next above k le lt =
    both_zero _ _ (value_at-other e k (λ same. absurd (omega (arith, same, lt, above 0 e (omega arith)))))
    (bare-above es from next (λ j d below. above (suc j) d (omega arith)) k le lt)

-- nor between an index and the first of theirs that is not lower
pub bare-sorted : (es : List Entry) (from next at : ℕ) → NeverFall es → IsPartitionPoint (λ e. ltb e.index from ≡ true) (λ e. ltb e.index from ≡ false) es at
    → ((e : Entry) → slice_get es at ≡ Some e → next ≤ e.index) → IsBare es from next
bare-sorted [] from next at up parts lowest k le lt = refl
bare-sorted (e ∷ es) from next zero up parts lowest k le lt =
    bare-above (e ∷ es) from next (λ j d below. omega (arith, lowest e refl, up 0 j d (omega arith) below)) k le lt
bare-sorted (e ∷ es) from next (suc at) up parts lowest k le lt =
    let here : ltb e.index from ≡ true = parts.0 0 e (omega arith) (omega arith) in
    both_zero _ _ (value_at-other e k (λ same. absurd (omega (arith, same, le, is_below e.index from here))))
    (bare-sorted es from next at (λ i j d a b. up (suc i) (suc j) d (omega arith) (omega arith))
    (λ j d a b. parts.0 (suc j) d (omega arith) (omega arith), λ j d a b. parts.1 (suc j) d (omega arith) (omega arith)) lowest k le lt)

-- the first of them from an index on is not lower
pub from_there : (es : List Entry) (from at : ℕ) (e : Entry) → IsPartitionPoint (λ e. ltb e.index from ≡ true) (λ e. ltb e.index from ≡ false) es at → slice_get es at ≡ Some e → from ≤ e.index
from_there [] from at e parts is = absurd (cc)
from_there (x ∷ es) from zero e parts is =
    let same : x ≡ e = cc in
    omega (arith, not_below x.index from (parts.1 0 x (omega arith) (omega arith)), ap (λ (y : Entry). y.index) same)
from_there (x ∷ es) from (suc at) e parts is =
    from_there es from at e (λ j d a b. parts.0 (suc j) d (omega arith) (omega arith), λ j d a b. parts.1 (suc j) d (omega arith) (omega arith)) is

-- what is not higher than one entry of a place is not higher than any other of it
pub at_place : (es : List Entry) (at next : ℕ) (e : Entry) → slice_get es at ≡ Some e → next ≤ e.index → (x : Entry) → slice_get es at ≡ Some x → next ≤ x.index
at_place es at next e is low x other = let same : e ≡ x = cc in omega (arith, low, ap (λ (y : Entry). y.index) same)

pub no_place : (es : List Entry) (at next : ℕ) → slice_get es at ≡ None → (x : Entry) → slice_get es at ≡ Some x → next ≤ x.index
no_place es at next none x is = absurd (cc)
