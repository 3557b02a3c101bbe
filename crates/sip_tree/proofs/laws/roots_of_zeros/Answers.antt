use Rattle.sip_vector.proofs.TreeZeros.{root_of_zeros, augroot_of_zeros}
use Rattle.sip_tree.proofs.laws.roots_of_zeros.Goals as goal

pub returns : goal.returns
returns c = record { root = root_of_zeros; augmented = augroot_of_zeros }
