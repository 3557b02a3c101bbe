-- The queries so far, each as often as there are helpers, and the next one as often as it was
-- added.
use Rattle.std.proofs.Common.{◌≡◌, ◌++◌, replicate, take}
use Rattle.sip_session.specs.Panels.{seat_queries}
use Rattle.sip_session.proofs.panels.seats_task.Given as goal

abbrev pub invariant-loop-query : goal.invariant-loop-query
invariant-loop-query l =
    l.queries.items ≡ seat_queries l.helpers (take l.query-index l.task.queries.items)

abbrev pub invariant-loop-seat : goal.invariant-loop-seat
invariant-loop-seat l =
    l.queries.items ≡ seat_queries l.helpers (take l.query-index l.task.queries.items) ++ replicate
    l._seat l.query
