use Rattle.std.proofs.Common.{ap}
use Rattle.sip_vector.proofs.TreeUpdates.{root_raised}
use Rattle.sip_vector.proofs.TreeCounted.{augroot_raised}
use Rattle.sip_tree.proofs.laws.roots_of_a_raised_entry.Goals as goal

pub returns : goal.returns
returns c = record {
  root = root_raised;
  hash = λ p numbers challenges i delta some long within. ap (λ node. node.hash) (augroot_raised p numbers challenges i delta some long within);
  count = λ p numbers challenges i delta some long within. ap (λ node. node.count) (augroot_raised p numbers challenges i delta some long within);
}
