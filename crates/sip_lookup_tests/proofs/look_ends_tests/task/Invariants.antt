use Rattle.std.proofs.Common.{All}
use Rattle.sip_lookup.specs.Lookups.{CanLook}
use Rattle.sip_lookup_tests.proofs.look_ends_tests.task.Given as goal

-- each lookup so far can be asked
abbrev pub invariant-loop-lookup : goal.invariant-loop-lookup
invariant-loop-lookup l = All (CanLook l.depth) l.list.items
