use Rattle.std.proofs.Common.{sym, ◌∙◌, ap}
use Rattle.sip_vector.specs.Trees.{root, augroot}
use Rattle.sip_vector.proofs.Lines.{adds_up, vector_joined, root_added, augroot_added}
use Rattle.sip_vector.proofs.Sides.{length-vector}
use Rattle.sip_tree.proofs.laws.roots_add_up.Goals as goal

pub returns-clause-root : goal.returns-clause-root
returns-clause-root c = root_added

pub returns-clause-hash : goal.returns-clause-hash
returns-clause-hash c = λ p numbers others challenges some long. ap (λ node. node.hash) (augroot_added p numbers others challenges some long)

pub returns-clause-count : goal.returns-clause-count
returns-clause-count c = λ p numbers others challenges some long. ap (λ node. node.count) (augroot_added p numbers others challenges some long)

pub returns-clause-root_of_streams : goal.returns-clause-root_of_streams
returns-clause-root_of_streams c = adds_up root root_added

pub returns-clause-hash_of_streams : goal.returns-clause-hash_of_streams
returns-clause-hash_of_streams c = adds_up (λ p numbers challenges. (augroot p numbers challenges).hash) (returns-clause-hash c)

pub returns-clause-count_of_streams : goal.returns-clause-count_of_streams
returns-clause-count_of_streams c = λ p depth s t side challenges some.
    ap (λ numbers. (augroot p numbers challenges).count) (vector_joined depth s t side)
    ∙ returns-clause-count c p _ _ challenges some (length-vector depth s side ∙ sym (length-vector depth t side))
