use Rattle.std.proofs.Common.{◌≡◌, take}
use Rattle.sip_tree.specs.Blocks.{total_after}
use Rattle.sip_tree.proofs.augmented.AugRoot.update_all.Given as goal

-- the total is that after the first updates
abbrev pub invariant-loop-update : goal.invariant-loop-update
invariant-loop-update g l = l.total ≡ total_after l.fn.self.total (take l.update-index l.updates)
