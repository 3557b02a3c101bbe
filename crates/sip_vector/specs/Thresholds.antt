-- The least entry that a query for heavy hitters asks for, and how many its answer may have.
use Rattle.std.specs.Prelude.{ℕ, ◌+◌, ◌-◌, ◌*◌, ◌/◌, Bool, ◌&&◌, nat_lt, ℤ, pos, nat_abs, int_le}
use Rattle.std.specs.Prelude.{if◌then◌else◌}

-- num/den of a total above 0, rounded up; 1 of another total
abbrev pub share_of : ℕ → ℕ → ℤ → ℕ
share_of num den total =
    if int_le (pos 1) total then (num * nat_abs total + den - 1) / den else 1

-- how many entries of at least its threshold a total may have, for an answer to be given
abbrev pub most_hitters : ℕ
most_hitters = 65536

-- a total reaches a threshold, and may have more entries of at least that
abbrev pub is_wide : ℕ → ℤ → Bool
is_wide at_least total =
    int_le (pos at_least) total && nat_lt most_hitters (nat_abs total / at_least)
