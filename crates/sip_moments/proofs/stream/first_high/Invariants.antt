-- None of the moments so far.
use Rattle.std.proofs.Common.{◌≡◌, List, None, take}
use Rattle.sip_vector.specs.declared.update.Update.{Update}
use Rattle.sip_verifier.specs.Weights.{AreWeights}
use Rattle.sip_moments.specs.Manner.{first_high}
use Rattle.sip_moments.proofs.stream.first_high.Given as goal

abbrev pub invariant-loop-index : goal.invariant-loop-index
invariant-loop-index l = (stream : List Update) → AreWeights stream l.weights
    → first_high stream (take l.index l.moments) ≡ None
