-- Which vectors a running root stands for: those whose root it is.
use Rattle.std.specs.Prelude.{◌≡◌, ℕ, ◌^◌, ℤ, pos, List, length}
use Rattle.sip_vector.specs.Splits.{splittop}
use Rattle.sip_vector.specs.Trees.{root, augroot}

-- the value is the root of these numbers, of which there are 2 ^ d for d challenges
pub record RootStandsFor (p : ℕ) (challenges : List ℕ) (value : ℕ) (numbers : List ℤ) : Type 0 where
  pub whole : length numbers ≡ 2 ^ length challenges
  pub same : value ≡ root p numbers challenges

-- likewise for the augmented root
pub record AugRootStandsFor (p : ℕ) (challenges : List ℕ) (hash : ℕ) (total : ℤ)
    (numbers : List ℤ) : Type 0 where
  pub whole : length numbers ≡ 2 ^ length challenges
  pub same : record { hash = hash; count = total } ≡ augroot p numbers challenges

-- and for the split root, whose values and weights are two lists
pub record SplitRootStandsFor (p : ℕ) (challenges : List ℕ) (hash weight : ℕ)
    (values weights : List ℤ) : Type 0 where
  pub whole : length values ≡ 2 ^ length challenges
  pub weighed : length weights ≡ 2 ^ length challenges
  pub same : record { hash = hash; count = pos weight } ≡ splittop p values weights challenges
