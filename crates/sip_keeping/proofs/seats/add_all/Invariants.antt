use Rattle.std.proofs.Common.{◌≡◌, ◌++◌, replicate}
use Rattle.sip_keeping.proofs.seats.add_all.Given as goal

-- so many were added
abbrev pub invariant-loop : goal.invariant-loop
invariant-loop l = l.kinds.items ≡ l.initial.kinds.items ++ replicate l.counter l.kind
