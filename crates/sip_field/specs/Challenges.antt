-- Which lists are the challenges of a seat.
use Rattle.std.specs.Prelude.{ℕ, ◌<◌, ◌≤◌, List, length, min, All}

-- residues modulo p, at most cap of them, and at least one where cap isn't 0
pub record AreChallenges (p cap : ℕ) (rs : List ℕ) : Type 0 where
  pub some : min 1 cap ≤ length rs
  pub fits : length rs ≤ cap
  pub below : All (λ r. r < p) rs
