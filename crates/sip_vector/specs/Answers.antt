-- What each query asks for: sums and filters over whole vectors.
use Rattle.std.specs.Prelude.{ℕ, ◌^◌, ◌<◌, ◌≤◌, Bool, not, ◌&&◌, ◌==◌, nat_le, ⊤, ℤ, pos, ◌*ℤ◌}
use Rattle.std.specs.Prelude.{nat_abs, int_le, List, map, filter}
use Rattle.std.specs.List.{enumerate_from, zip}
use Rattle.sip_vector.specs.declared.update.Side.{Side}
use Rattle.sip_vector.specs.declared.update.Side.TheVariants.{First, Second}
use Rattle.sip_vector.specs.declared.update.Update.{Update}
use Rattle.sip_vector.specs.declared.update.Entry.{Entry}
use Rattle.sip_vector.specs.declared.query.Query.{Query}
use Rattle.sip_vector.specs.declared.query.Query.TheVariants.{Sub, Range, F2, Inner, Heavy, Share}
use Rattle.sip_vector.specs.declared.query.Query.TheVariants.{Above}
use Rattle.sip_vector.specs.Limits.{most_share}
use Rattle.sip_vector.specs.Streams.{int_sum, total, vector}

-- the query can be asked at this depth
abbrev pub Fits : ℕ → Query → Type 0
Fits depth (Sub lo hi) = (lo ≤ hi) × (hi < 2 ^ depth)
Fits depth (Range side lo hi) = (lo ≤ hi) × (hi < 2 ^ depth)
Fits depth (F2 side) = ⊤
Fits depth Inner = ⊤
Fits depth (Heavy side at_least) = (1 ≤ at_least) × (at_least < 2 ^ 63)
Fits depth (Share side num den) = (1 ≤ num) × (num ≤ den) × (den ≤ most_share)
Fits depth (Above side at_least) = (1 ≤ at_least) × (at_least < 2 ^ 63)

-- the entries of a vector, each with its index
abbrev pub entries : List ℤ → List Entry
entries numbers = map (λ x. record { index = x.0; value = x.1 }) (enumerate_from 0 numbers)

abbrev pub is_within : ℕ → ℕ → ℕ → Bool
is_within lo hi i = nat_le lo i && nat_le i hi

abbrev pub is_zero : ℤ → Bool
is_zero z = nat_abs z == 0

-- an entry has this share of a total that is above 0
abbrev pub is_shared : ℕ → ℕ → ℤ → Entry → Bool
is_shared num den total e = int_le (pos 1) total && int_le (pos num *ℤ total) (e.value *ℤ pos den)

-- the entries of a side that are at least a threshold
abbrev pub large_entries : ℕ → List Update → Side → ℕ → List Entry
large_entries depth stream side at_least =
    filter (λ e. int_le (pos at_least) e.value) (entries (vector depth stream side))

-- An answer is pairs or a number.
pub data Answer : Type 0 where
  pairs : List Entry → Answer
  number : ℤ → Answer

-- the answer that the stream's own vectors give
abbrev pub answer : ℕ → List Update → Query → Answer
answer depth stream (Sub lo hi) =
    pairs (filter (λ e. is_within lo hi e.index && not (is_zero e.value))
    (entries (vector depth stream First)))
answer depth stream (Range side lo hi) =
    number (int_sum
    (map (λ e. e.value)
    (filter (λ e. is_within lo hi e.index) (entries (vector depth stream side)))))
answer depth stream (F2 side) = number (int_sum (map (λ a. a *ℤ a) (vector depth stream side)))
answer depth stream Inner =
    number (int_sum
    (map (λ x. x.0 *ℤ x.1) (zip (vector depth stream First) (vector depth stream Second))))
answer depth stream (Heavy side at_least) = pairs (large_entries depth stream side at_least)
answer depth stream (Share side num den) =
    pairs (filter (is_shared num den (total stream side)) (entries (vector depth stream side)))
answer depth stream (Above side at_least) = pairs (large_entries depth stream side at_least)
