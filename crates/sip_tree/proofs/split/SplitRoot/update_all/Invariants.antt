use Rattle.std.proofs.Common.{◌≡◌, take}
use Rattle.sip_tree.specs.Blocks.{split_after, weight_after}
use Rattle.sip_tree.proofs.split.SplitRoot.update_all.Given as goal

-- the root is that after the first updates
abbrev pub invariant-loop-update : goal.invariant-loop-update
invariant-loop-update g l = record {
  seat : l.self.seat ≡ l.fn.self.seat;
  hash : l.self.hash ≡ split_after g.F.Field.MODULUS l.fn.self.seat l.fn.self.hash (take l.update-index l.updates);
  weight : l.self.weight ≡ weight_after l.fn.self.weight (take l.update-index l.updates);
}

-- and so is the weight, beside the hash by the tables
abbrev pub invariant-loop-update-else-updates-lt-BLOCK :
    goal.invariant-loop-update-else-updates-lt-BLOCK
invariant-loop-update-else-updates-lt-BLOCK g l = record {
  weight : l.weight ≡ weight_after l.fn.self.weight (take l.update-index l.updates);
}
