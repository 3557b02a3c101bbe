-- The examples that the laws work out: the third moment of (3, 0, 5, 1) at the challenges (2, 10),
-- and that of (1, 0) over 31.
use Rattle.std.specs.Prelude.{ℕ, ℤ, pos, List, [], ◌∷◌}
use Rattle.sip_sums.specs.Examples.{less}
use Rattle.sip_moments.specs.AcceptsMoment.{Stated}

-- the round polynomials of (3, 0, 5, 1)
abbrev pub first_round : List ℕ
first_round = 152 ∷ less 381 ∷ 321 ∷ less 91 ∷ []

abbrev pub second_round : List ℕ
second_round = less 27 ∷ 0 ∷ 0 ∷ 0 ∷ []

-- what its honest replies state
abbrev pub stated_cubes : Stated
stated_cubes = record { claim = pos 153; polynomials = first_round ∷ second_round ∷ [] }

-- for (1, 0), the claim 2 with one polynomial
abbrev pub one_and_none : List ℤ
one_and_none = pos 1 ∷ pos 0 ∷ []

abbrev pub wrong_round : List ℕ
wrong_round = 8 ∷ 23 ∷ 25 ∷ 0 ∷ []

abbrev pub stated_two : Stated
stated_two = record { claim = pos 2; polynomials = wrong_round ∷ [] }
