use Rattle.std.proofs.Common.{◌≤◌}
use Rattle.sip_check_tests.proofs.heavy_check_tests.a_misplaced_entry_passes_at_91_of_961_challenges.Given as goal

-- the room stays
abbrev pub invariant-loop-second : goal.invariant-loop-second
invariant-loop-second g l = 2 ≤ l.space.nodes

abbrev pub invariant-loop-first : goal.invariant-loop-first
invariant-loop-first g l = 2 ≤ l.space.nodes
