-- The weights of a stream that was measured.
use Rattle.std.proofs.Common.{◌≡◌, List, ◌∙◌}
use Rattle.sip_vector.specs.declared.update.Side.TheVariants.{First, Second}
use Rattle.sip_vector.specs.declared.update.Update.{Update}
use Rattle.sip_verifier.specs.declared.weights.Weights.{Weights}
use Rattle.sip_verifier.specs.Weights.{AreWeights}
use Rattle.sip_runs.specs.Measures.{IsMeasured, Measuring}

pub weighed : (stream : List Update) (m : Measuring) (w : Weights) → IsMeasured stream m → w.first ≡ m.first → w.second ≡ m.second → AreWeights stream w
weighed stream m w is one other First = one ∙ is.weights First
weighed stream m w is one other Second = other ∙ is.weights Second
