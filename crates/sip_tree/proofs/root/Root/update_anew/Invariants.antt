use Rattle.std.proofs.Common.{◌≡◌, take}
use Rattle.sip_tree.specs.Blocks.{root_after}
use Rattle.sip_tree.proofs.root.Root.update_anew.Given as goal

-- the root is that after the first updates
abbrev pub invariant-loop-update : goal.invariant-loop-update
invariant-loop-update g l = record {
  seat : l.self.seat ≡ l.fn.self.seat;
  value : l.self.value ≡ root_after g.F.Field.MODULUS l.fn.self.seat l.fn.self.value (take l.update-index l.updates);
}
