-- Streams of updates, and the vectors that they add up to.
use Rattle.std.specs.Prelude.{◌≢◌, ℕ, ◌-◌, ◌^◌, ◌<◌, ◌≤◌, Bool, true, false, ◌==◌, ℤ, pos, ◌≤ℤ◌}
use Rattle.std.specs.Prelude.{◌+ℤ◌, nat_abs, List, [], ◌∷◌, map, All, sum_by, filter}
use Rattle.std.specs.List.{range_with_len}
use Rattle.sip_vector.specs.declared.update.Side.{Side}
use Rattle.sip_vector.specs.declared.update.Side.TheVariants.{First, Second}
use Rattle.sip_vector.specs.declared.update.Update.{Update}

-- the sum of signed numbers
abbrev pub int_sum : List ℤ → ℤ
int_sum [] = pos 0
int_sum (x ∷ xs) = x +ℤ int_sum xs

abbrev pub same_side : Side → Side → Bool
same_side First First = true
same_side Second Second = true
same_side First Second = false
same_side Second First = false

-- the updates of one side
abbrev pub of_side : List Update → Side → List Update
of_side stream side = filter (λ u. same_side u.side side) stream

-- the sum of a side's deltas
abbrev pub total : List Update → Side → ℤ
total stream side = int_sum (map (λ u. u.delta) (of_side stream side))

-- the sum of their absolute values
abbrev pub weight : List Update → Side → ℕ
weight stream side = sum_by (λ u. nat_abs u.delta) (of_side stream side)

-- the greatest weight of a side
abbrev pub most_weight : ℕ
most_weight = 2 ^ 30 - 1

-- the sum of the deltas of a side and an item
abbrev pub frequency : List Update → Side → ℕ → ℤ
frequency stream side item = total (filter (λ u. u.item == item) stream) side

-- a side's vector: the frequency of each item below 2 ^ depth
abbrev pub vector : ℕ → List Update → Side → List ℤ
vector depth stream side = map (frequency stream side) (range_with_len 0 (2 ^ depth))

-- each item is below 2 ^ depth, no delta is 0, and no side is too heavy
pub record IsLegal (depth : ℕ) (stream : List Update) : Type 0 where
  pub items : All (λ u. u.item < 2 ^ depth) stream
  pub deltas : All (λ u. u.delta ≢ pos 0) stream
  pub first : weight stream First ≤ most_weight
  pub second : weight stream Second ≤ most_weight

-- no entry is negative
abbrev pub IsStrict : ℕ → List Update → Side → Type 0
IsStrict depth stream side = All (λ a. pos 0 ≤ℤ a) (vector depth stream side)
