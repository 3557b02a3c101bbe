-- Each seat is as it was until the updates come to it, and stands for the longer stream then.
use Rattle.std.proofs.Common.{◌<◌, length, sym, subst, arith}
use Rattle.sip_runs.proofs.Raised.{raised-all, raised-more, raised-next-old}
use Rattle.sip_runs.proofs.Seated.{IsRaised, zip_blocks, zip_questions, zip_seated}
use Rattle.sip_runs.specs.Seats.{IsSeated}
use Rattle.sip_runs.proofs.seats.raise.Goals as goal

pub update_all-requires-clause-legal : goal.update_all-requires-clause-legal
update_all-requires-clause-legal c =
    let (version, depth, stream, deep, all, legal) = c.requires.legal in
    let item = c.seat-item.result in
    let k = c.loop-seat.seat-index in
    let old = raised-next-old (IsRaised c.args.updates.now) k c.args.seats.now c.loop-seat.seats item c.loop-seat.invariant (omega arith) in
    (version, depth, stream, deep, subst (IsSeated version depth stream) (sym old.1) (all k item old.0), legal)

pub loop-seat-preserved : goal.loop-seat-preserved
loop-seat-preserved c =
    let inside : c.loop-seat.seat-index < length c.loop-seat.seats = omega arith in
    raised-more (IsRaised c.args.updates.now) c.loop-seat.seat-index c.args.seats.now c.loop-seat.seats c.seat-item.result c.update_all.new.self c.loop-seat.invariant inside
    (record { question = c.update_all.ensures.question; block = c.update_all.ensures.block; seated = c.update_all.ensures.seated })

pub returns-clause-questions : goal.returns-clause-questions
returns-clause-questions c =
    zip_questions c.args.updates.now c.args.seats.now c.loop-seat.seats
    (raised-all (IsRaised c.args.updates.now) c.loop-seat.seat-index c.args.seats.now c.loop-seat.seats c.loop-seat.invariant (omega arith))

pub returns-clause-blocks : goal.returns-clause-blocks
returns-clause-blocks c =
    zip_blocks c.args.updates.now c.args.seats.now c.loop-seat.seats
    (raised-all (IsRaised c.args.updates.now) c.loop-seat.seat-index c.args.seats.now c.loop-seat.seats c.loop-seat.invariant (omega arith))

pub returns-clause-seated : goal.returns-clause-seated
returns-clause-seated c = λ version depth stream stand.
    zip_seated c.args.updates.now version depth stream c.args.seats.now c.loop-seat.seats
    (raised-all (IsRaised c.args.updates.now) c.loop-seat.seat-index c.args.seats.now c.loop-seat.seats c.loop-seat.invariant (omega arith)) stand
