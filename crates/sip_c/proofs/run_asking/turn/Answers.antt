use Rattle.sip_runs.specs.Runs.{behind_first}
use Rattle.sip_c.specs.RunAsking.{IsTaken}
use Rattle.sip_c.proofs.Turned.{seated_of, turned}
use Rattle.sip_c.proofs.run_asking.turn.Goals as goal

pub begin-requires-clause-seated : goal.begin-requires-clause-seated
begin-requires-clause-seated c =
    let (p, stream, is) = c.requires.run in
    (stream, rw (c.version-version.ensures, c.depth-depth.ensures) (seated_of p stream c.args.left.now c.in-Some.seat is (c.in-Some.ensures.asked p stream is).0))

pub returns-in_err-talk-clause-run : goal.returns-in_err-talk-clause-run
returns-in_err-talk-clause-run c =
    let (p, stream, is) = c.requires.run in
    (behind_first p, stream, (c.in-Some.ensures.asked p stream is).1)

pub returns-clause-run : goal.returns-clause-run
returns-clause-run c =
    let (p, stream, is) = c.requires.run in
    (behind_first p, stream, (c.in-Some.ensures.asked p stream is).1)

pub returns-clause-turns : goal.returns-clause-turns
returns-clause-turns c =
    let taken : IsTaken c.args.left.now c.in-Some.seat c.next.new.self =
    record { order = c.in-Some.ensures.order; version = c.next.ensures.version; depth = c.next.ensures.depth; asked = λ p stream is. c.in-Some.ensures.asked p stream is } in
    turned c.args.number c.depth-depth.result c.version-version.result c.args.left.now c.next.new.self c.in-Some.seat c.in_ok-talk.talk c.version-version.ensures c.depth-depth.ensures taken c.in_ok-talk.ensures.number c.in_ok-talk.ensures.asked
