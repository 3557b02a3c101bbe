-- What updates do to the weights, and which vectors have which weights.
use Rattle.std.specs.Prelude.{ℕ, ◌≡◌, List, Option, Some, None, if◌then◌else◌}
use Rattle.sip_vector.specs.declared.update.Update.{Update}
use Rattle.sip_helper.specs.Vectors.{Vectors}
use Rattle.sip_helper.specs.declared.vectors.Weights.{Weights}
use Rattle.sip_helper.specs.Turns.{weights_after, stays_legal}

-- the weights once these updates are added, where they stay legal
abbrev pub legal_weights : ℕ → Weights → List Update → Option Weights
legal_weights depth w us = if stays_legal depth w us then Some (weights_after w us) else None

-- what was added to two vectors
abbrev pub weights_of : Vectors → Weights
weights_of v = record { first = v.first.weight; second = v.second.weight }

-- both vectors have this depth
pub record HaveDepth (depth : ℕ) (v : Vectors) : Type 0 where
  pub first : v.first.depth ≡ depth
  pub second : v.second.depth ≡ depth

-- the vectors have this depth and these weights
pub record HaveWeights (depth : ℕ) (w : Weights) (v : Vectors) : Type 0 where
  pub first : v.first.depth ≡ depth
  pub second : v.second.depth ≡ depth
  pub weights : weights_of v ≡ w
