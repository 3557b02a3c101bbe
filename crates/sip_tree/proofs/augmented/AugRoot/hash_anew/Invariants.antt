use Rattle.std.proofs.Common.{◌≡◌, take}
use Rattle.sip_tree.specs.Blocks.{hash_after}
use Rattle.sip_tree.proofs.augmented.AugRoot.hash_anew.Given as goal

-- the hash is that after the first updates
abbrev pub invariant-loop-update : goal.invariant-loop-update
invariant-loop-update g l =
    g.F.Field.number l.hash ≡ hash_after g.F.Field.MODULUS l.fn.self.seat l.fn.self.hash (take l.update-index l.updates)
