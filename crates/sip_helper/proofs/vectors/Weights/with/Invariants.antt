-- The updates to come are judged with the weights so far as all of them are with the first weights.
use Rattle.std.proofs.Common.{◌≡◌, drop}
use Rattle.std.specs.Prelude.{IsTrue}
use Rattle.sip_helper.specs.Turns.{is_light}
use Rattle.sip_helper.specs.inside.Legal.{legal_weights}
use Rattle.sip_helper.proofs.vectors.Weights.with.Given as goal

abbrev pub invariant-loop-update : goal.invariant-loop-update
invariant-loop-update l = record {
  light : IsTrue (is_light l.weights);
  rest : legal_weights l.depth l.weights (drop l.update-index l.updates) ≡ legal_weights l.depth l.fn.self l.updates;
}
