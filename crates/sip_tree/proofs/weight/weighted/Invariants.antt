use Rattle.std.proofs.Common.{◌≡◌, ◌*◌, ◌%◌, drop}
use Rattle.sip_vector.specs.Weights.{node_weight, weight_above}
use Rattle.sip_tree.proofs.weight.weighted.Given as goal

-- the product, times the weight of the node that the path has come to, is what is wanted
abbrev pub invariant-loop-below : goal.invariant-loop-below
invariant-loop-below g l =
    let p = g.F.Field.MODULUS in
    (g.F.Field.number l.product * node_weight p l.path (drop l.below l.seat)) % p ≡ (g.F.Field.number l.fn.start * weight_above p l.seat l.level l.index) % p
