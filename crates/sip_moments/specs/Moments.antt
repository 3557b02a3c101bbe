-- The frequency moments of a vector, and for which of them a claim has room.
use Rattle.std.specs.Prelude.{ℕ, ◌^◌, ◌≤◌, Bool, nat_lt, ℤ, List, map}
use Rattle.std.specs.Int.{int_pow}
use Rattle.sip_vector.specs.Streams.{int_sum}
use Rattle.sip_wire.specs.Table.{most_claim, most_degree}

-- the k-th moment: the sum of the k-th powers of the numbers
abbrev pub moment : ℕ → List ℤ → ℤ
moment k numbers = int_sum (map (λ a. int_pow a k) numbers)

-- the least degree of a moment that is asked for, since the second moment is a sum of products; the
-- greatest is the wire's
abbrev pub least_degree : ℕ
least_degree = 3

pub record IsDegree (k : ℕ) : Type 0 where
  pub least : least_degree ≤ k
  pub most : k ≤ most_degree

-- a vector of this weight may have a k-th moment for which a claim has no room
abbrev pub is_too_high : ℕ → ℕ → Bool
is_too_high weight k = nat_lt most_claim (weight ^ k)
