-- Entries as they are gathered: what a list of them adds up to, and how two rising lists are
-- merged.
use Rattle.std.specs.Prelude.{◌≡◌, ◌≢◌, ℕ, suc, ◌+◌, ◌^◌, ◌<◌, ◌≤◌, ◌==◌, ℤ, pos, ◌+ℤ◌, nat_abs}
use Rattle.std.specs.Prelude.{List, [], ◌∷◌, ◌++◌, length, map, All, Option, Some, None, slice_set}
use Rattle.std.specs.Prelude.{if◌then◌else◌}
use Rattle.sip_vector.specs.declared.update.Entry.{Entry}
use Rattle.sip_vector.specs.Answers.{is_zero}
use Rattle.sip_vector.specs.Sparse.{IsSparse}
use Rattle.sip_vector.specs.Streams.{int_sum, most_weight}
use Rattle.sip_vector.specs.Vectors.{SideVector, number_at, numbers_of}

abbrev pub as_pair : Entry → ℕ × ℤ
as_pair e = (e.index, e.value)

-- what an entry adds at an index
abbrev pub value_at : Entry → ℕ → ℤ
value_at e i = if e.index == i then e.value else pos 0

-- what entries add at an index
abbrev pub sum_at : List Entry → ℕ → ℤ
sum_at [] i = pos 0
sum_at (e ∷ es) i = value_at e i +ℤ sum_at es i

-- the sum of the absolute values
abbrev pub abs_sum : List Entry → ℕ
abs_sum [] = 0
abs_sum (e ∷ es) = nat_abs e.value + abs_sum es

-- these numbers once each entry's value is added to the number at its index
abbrev pub raised : List ℤ → List Entry → List ℤ
raised numbers [] = numbers
raised numbers (e ∷ es) =
    raised (slice_set numbers e.index (number_at numbers e.index +ℤ e.value)) es

-- the indices do not fall, and are from `least` on and below n
abbrev pub IsRising : ℕ → ℕ → List Entry → Type 0
IsRising least n [] = Unit {0}
IsRising least n (e ∷ es) = (least ≤ e.index) × (e.index < n) × IsRising e.index n es

-- entries with one more at the end, left out where it is 0
abbrev pub with_last : List Entry → Entry → List Entry
with_last es e = if is_zero e.value then es else es ++ e ∷ []

-- e is taken from the front of one of the two lists, and no entry that is left has a lower index
pub record IsTaken (list added : List Entry) (e : Entry)
    (list_left added_left : List Entry) : Type 0 where
  pub sums : (k : ℕ) → sum_at list k +ℤ sum_at added k
      ≡ value_at e k +ℤ (sum_at list_left k +ℤ sum_at added_left k)
  pub light : abs_sum list + abs_sum added
      ≡ nat_abs e.value + (abs_sum list_left + abs_sum added_left)
  pub rising : (least n : ℕ) → IsRising least n list → IsRising least n added
      → (least ≤ e.index) × (e.index < n) × IsRising e.index n list_left
      × IsRising e.index n added_left
  pub shorter : length list + length added ≡ suc (length list_left + length added_left)

-- entries below n with rising indices and without 0, which add up to what the two lists do
pub record IsMerged (n : ℕ) (list added merged : List Entry) : Type 0 where
  pub sparse : IsSparse (pos 0) 0 n (map as_pair merged)
  pub sums : (k : ℕ) → sum_at merged k ≡ sum_at list k +ℤ sum_at added k

-- entries to which one more is added, as one or as several that add up to it
pub record IsAdded (index : ℕ) (delta : ℤ) (before after : List Entry) : Type 0 where
  pub sums : (k : ℕ) → sum_at after k
      ≡ sum_at before k +ℤ value_at (record { index = index; value = delta }) k
  pub light : abs_sum after ≤ abs_sum before + nat_abs delta
  pub within : (n : ℕ) → index < n → All (λ e. e.index < n) before
      → All (λ e. e.index < n) after
  pub some : 0 < length after

-- the numbers of a vector with this list and these pending entries
abbrev pub gathered : ℕ → List Entry → List Entry → List ℤ
gathered depth list pending = raised (numbers_of depth (map as_pair list)) pending

-- a list without 0 and entries that wait, with the sum of what they show and a weight that bounds
-- them
pub record IsGathered (depth : ℕ) (list pending : List Entry) (total : ℤ)
    (weight : ℕ) : Type 0 where
  pub sparse : IsSparse (pos 0) 0 (2 ^ depth) (map as_pair list)
  pub within : All (λ e. e.index < 2 ^ depth) pending
  pub sums : total ≡ int_sum (gathered depth list pending)
  pub light : abs_sum list + abs_sum pending ≤ weight
  pub most : weight ≤ most_weight

-- nothing is added from one index up to another
abbrev pub IsBare : List Entry → ℕ → ℕ → Type 0
IsBare es from to = (k : ℕ) → from ≤ k → k < to → sum_at es k ≡ pos 0

-- the first entry of a list below n at an index or after it
abbrev pub IsFirstFrom : ℕ → List Entry → ℕ → Option Entry → Type 0
IsFirstFrom n list from None = (k : ℕ) → from ≤ k → sum_at list k ≡ pos 0
IsFirstFrom n list from (Some e) =
    (from ≤ e.index) × (e.index < n) × (e.value ≢ pos 0) × (sum_at list e.index ≡ e.value)
    × IsBare list from e.index

-- a rising list without 0 that shows what a vector shows
pub record IsListOf (vector : SideVector) (list : List Entry) : Type 0 where
  pub sparse : IsSparse (pos 0) 0 (2 ^ vector.depth) (map as_pair list)
  pub numbers : vector.numbers ≡ numbers_of vector.depth (map as_pair list)
  pub light : abs_sum list ≤ most_weight

-- the first number that is not 0 from one index to another
abbrev pub IsFirstOf : List ℤ → ℕ → ℕ → Option Entry → Type 0
IsFirstOf numbers from hi None = (k : ℕ) → from ≤ k → k ≤ hi → number_at numbers k ≡ pos 0
IsFirstOf numbers from hi (Some e) =
    (from ≤ e.index) × (e.index ≤ hi) × (e.value ≢ pos 0) × (number_at numbers e.index ≡ e.value)
    × ((k : ℕ) → from ≤ k → k < e.index → number_at numbers k ≡ pos 0)
