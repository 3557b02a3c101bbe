use Rattle.std.proofs.Common.{◌≡◌}
use Rattle.sip_layer_tests.proofs.absorb_tests.pieces_add_up.Given as goal

-- all stand for the same challenges
abbrev pub invariant-loop-number : goal.invariant-loop-number
invariant-loop-number l = record {
  once : l.once.root.seat ≡ l.seat;
  whole : l.whole.root.seat ≡ l.seat;
  group : l.group.root.seat ≡ l.seat;
}
