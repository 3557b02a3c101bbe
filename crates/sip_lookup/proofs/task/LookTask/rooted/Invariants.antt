use Rattle.std.proofs.Common.{◌≡◌, replicate}
use Rattle.sip_vector.specs.declared.query.Query.TheVariants.{Sub}
use Rattle.sip_lookup.proofs.task.LookTask.rooted.Given as goal

-- there is a query for each lookup so far
abbrev pub invariant-loop : goal.invariant-loop
invariant-loop l = l.queries.items ≡ replicate l.counter (Sub 0 0)
