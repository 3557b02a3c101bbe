use Rattle.sip_vector.proofs.Splits.{weights_raised, weights_kept, weights_sum, weights_positive}
use Rattle.sip_vector.proofs.Sides.{vector-nil}
use Rattle.sip_vector.proofs.laws.weights_add_up.Goals as goal

pub returns : goal.returns
returns c = record {
  empty = vector-nil;
  raised = weights_raised;
  kept = weights_kept;
  sum = weights_sum;
  positive = weights_positive;
}
