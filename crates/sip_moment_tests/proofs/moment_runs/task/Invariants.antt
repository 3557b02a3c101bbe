use Rattle.std.proofs.Common.{All}
use Rattle.sip_moments.specs.Moments.{IsDegree}
use Rattle.sip_moment_tests.proofs.moment_runs.task.Given as goal

-- each moment so far has a degree from 3 to 8
abbrev pub invariant-loop-moment : goal.invariant-loop-moment
invariant-loop-moment l = All (λ m. IsDegree m.degree) l.list.items
