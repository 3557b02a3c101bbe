use Rattle.std.proofs.Common.{◌≡◌}
use Rattle.sip_layer_tests.proofs.absorb_tests.add_piece.Given as goal

-- for the same challenges
abbrev pub invariant-loop : goal.invariant-loop
invariant-loop l = l.kept.root.seat ≡ l.fn.kept.root.seat
