use Rattle.std.proofs.Common.{All}
use Rattle.sip_verifier.specs.Tasks.{CanBeAsked}
use Rattle.sip_duel_tests.proofs.duel_runs.task.Given as goal

-- each query so far can be asked
abbrev pub invariant-loop-query : goal.invariant-loop-query
invariant-loop-query l = All (CanBeAsked l.depth) l.list.items
