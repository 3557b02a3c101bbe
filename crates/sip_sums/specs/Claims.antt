-- Sums over the entries of vectors that are not 0. Only the contracts of private functions cite
-- these definitions.
use Rattle.std.specs.Prelude.{ℕ, suc, ◌≤◌, ◌==◌, ℤ, pos, ◌*ℤ◌, List, [], ◌∷◌, map, if◌then◌else◌}
use Rattle.sip_vector.specs.declared.update.Entry.{Entry}
use Rattle.sip_vector.specs.Answers.{is_within}
use Rattle.sip_vector.specs.Streams.{int_sum}

-- the indices rise from `least` on
abbrev pub RisesFrom : ℕ → List Entry → Type 0
RisesFrom least [] = Unit {0}
RisesFrom least (e ∷ es) = (least ≤ e.index) × RisesFrom (suc e.index) es

-- the value at an index, or 0
abbrev pub value_in : List Entry → ℕ → ℤ
value_in [] i = pos 0
value_in (e ∷ es) i = if e.index == i then e.value else value_in es i

-- the value where the index is from lo to hi, and else 0
abbrev pub value_within : ℕ → ℕ → Entry → ℤ
value_within lo hi e = if is_within lo hi e.index then e.value else pos 0

-- the sum of the squares of the values
abbrev pub squares_sum : List Entry → ℤ
squares_sum es = int_sum (map (λ e. e.value *ℤ e.value) es)

-- the sum of the products with the values of other entries
abbrev pub products_sum : List Entry → List Entry → ℤ
products_sum others es = int_sum (map (λ e. e.value *ℤ value_in others e.index) es)

-- the sum of the values at the indices from lo to hi
abbrev pub range_sum : ℕ → ℕ → List Entry → ℤ
range_sum lo hi es = int_sum (map (value_within lo hi) es)
