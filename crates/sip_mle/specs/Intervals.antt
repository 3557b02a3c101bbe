-- How the list of an interval looks between two folds.
use Rattle.std.specs.Prelude.{ℕ, ◌^◌, ◌==◌, List, map, if◌then◌else◌}
use Rattle.std.specs.List.{range_with_len}
use Rattle.sip_vector.specs.Answers.{is_within}

-- the two values at the ends, 1 between them and 0 outside; where the ends are one entry, it is the
-- left value
abbrev pub entry : ℕ → ℕ → ℕ → ℕ → ℕ → ℕ
entry lo hi left right i =
    if i == lo then left else (if i == hi then right else (if is_within lo hi i then 1 else 0))

-- a list of 2 ^ levels entries
abbrev pub interval : ℕ → ℕ → ℕ → ℕ → ℕ → List ℕ
interval levels lo hi left right = map (entry lo hi left right) (range_with_len 0 (2 ^ levels))
