-- How large things are at the most.
use Rattle.std.specs.Prelude.{ℕ}

-- the greatest depth, and so how many challenges a query has at most: one for each level
abbrev pub most_depth : ℕ
most_depth = 48

-- the greatest depth at which each item has room in four bytes
abbrev pub most_narrow_depth : ℕ
most_narrow_depth = 32

-- the greatest denominator of a share
abbrev pub most_share : ℕ
most_share = 1000000
