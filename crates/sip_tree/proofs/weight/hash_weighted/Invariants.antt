use Rattle.std.proofs.Common.{◌≡◌, drop}
use Rattle.sip_vector.specs.Weights.{hash_weight_from}
use Rattle.sip_tree.proofs.weight.hash_weighted.Given as goal

-- the weight so far, and the levels that are left
abbrev pub invariant-loop-below : goal.invariant-loop-below
invariant-loop-below g l =
    let p = g.F.Field.MODULUS in
    hash_weight_from p (g.F.Field.number l.weight) l.path (drop l.below l.seat) ≡ hash_weight_from p (g.F.Field.number l.fn.leaf) l.index l.seat
