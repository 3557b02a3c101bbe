use Rattle.sip_vector.proofs.SplitTree.{splittop_added, splitroot_joined, splittop_of_zeros, splittop_raised, weight_is_line}
use Rattle.sip_vector.proofs.laws.split_tops_add_up.Goals as goal

pub returns : goal.returns
returns c = record {
  sum = splittop_added;
  streams = splitroot_joined;
  zeros = splittop_of_zeros;
  raised = splittop_raised;
  factors = weight_is_line;
}
