use Rattle.std.proofs.Common.{◌≡◌, map}
use Rattle.sip_tree.proofs.FoldSteps.{half_way}
use Rattle.sip_tree.proofs.fold.up.Given as goal

-- the first nodes are those of the level above, and the others are as they were
abbrev pub invariant-loop-at : goal.invariant-loop-at
invariant-loop-at g l =
    map g.F.Field.number l.list.items ≡ half_way g.F.Field.MODULUS (g.F.Field.number l.r) (map g.F.Field.number l.initial.list.items) l.at
