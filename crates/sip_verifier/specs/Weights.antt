-- The weights of the sides of a stream.
use Rattle.std.specs.Prelude.{◌≡◌, ℕ, List}
use Rattle.sip_vector.specs.declared.update.Side.{Side}
use Rattle.sip_vector.specs.declared.update.Side.TheVariants.{First, Second}
use Rattle.sip_vector.specs.declared.update.Update.{Update}
use Rattle.sip_vector.specs.Streams.{weight}
use Rattle.sip_verifier.specs.declared.weights.Weights.{Weights}

abbrev pub weight_in : Weights → Side → ℕ
weight_in w First = w.first
weight_in w Second = w.second

-- these are the weights of this stream's sides
abbrev pub AreWeights : List Update → Weights → Type 0
AreWeights stream w = (side : Side) → weight_in w side ≡ weight stream side

-- those of no stream
abbrev pub none : Weights
none = record { first = 0; second = 0 }
