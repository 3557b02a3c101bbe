-- Which vectors a running extension stands for: those whose extension it is.
use Rattle.std.specs.Prelude.{◌≡◌, ℕ, ◌^◌, ℤ, List, length}
use Rattle.sip_vector.specs.Extensions.{ext}

-- the value is the extension of these numbers, of which there are 2 ^ d for d challenges
pub record PointStandsFor (p : ℕ) (challenges : List ℕ) (value : ℕ)
    (numbers : List ℤ) : Type 0 where
  pub whole : length numbers ≡ 2 ^ length challenges
  pub same : value ≡ ext p numbers challenges
