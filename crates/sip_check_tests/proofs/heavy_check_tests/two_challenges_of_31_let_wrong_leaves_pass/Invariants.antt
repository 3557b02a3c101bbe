use Rattle.std.proofs.Common.{◌≤◌}
use Rattle.sip_check_tests.proofs.heavy_check_tests.two_challenges_of_31_let_wrong_leaves_pass.Given as goal

abbrev pub invariant-loop-r : goal.invariant-loop-r
invariant-loop-r g l = 2 ≤ l.space.nodes
