-- There is room for each query once for each helper.
use Rattle.std.proofs.Common.{length, ap, arith}
use Rattle.sip_session.proofs.Seats.{seats_front}
use Rattle.sip_session.proofs.panels.seats_task.Goals as goal

pub push-requires : goal.push-requires
push-requires c =
    let qs = c.args.task.now.queries.items in
    let size =
    seats_front c.args.helpers c.loop-query.query-index c.loop-seat._seat qs
    c.loop-seat.queries.items _ (omega (arith, ap length c.deref-query-items.ensures.0))
    (omega arith) c.loop-seat.invariant in
    (omega arith, omega (arith, size, c.requires))
