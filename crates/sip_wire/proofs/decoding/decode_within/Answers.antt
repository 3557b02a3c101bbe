use Rattle.std.proofs.lemmas.Result.{err_from_is_err_and}
use Rattle.sip_wire.proofs.Answering.{stopped_in_head, bad_head, stopped_in_body, body_length, came_all, no_want, no_want_of_body}
use Rattle.sip_wire.proofs.decoding.decode_within.Goals as goal

pub returns-in_err-receive-clause-did : goal.returns-in_err-receive-clause-did
returns-in_err-receive-clause-did g c =
    let p = err_from_is_err_and c.from_residual.result c.from_residual.ensures.1 in
    rw (p.1, p.2) (stopped_in_head c.args.version c.args.place _ _ _ _ _ _ _ c.clear.ensures.bytes c.in_err-receive.ensures.heard c.in_err-receive.ensures.failed)

pub returns-in_err-kind-clause-did : goal.returns-in_err-kind-clause-did
returns-in_err-kind-clause-did g c =
    let p = err_from_is_err_and c.from_residual-in_err-kind.result c.from_residual-in_err-kind.ensures.1 in
    let bad = rw c.bytes.ensures at c.in_err-kind.ensures in
    rw (p.1, p.2) (bad_head c.args.version c.args.place _ _ _ _ _ _ _ c.clear.ensures.bytes c.in_ok-receive.ensures.heard bad.0 bad.1 bad.2)

pub returns-in_err-receive-2-clause-did : goal.returns-in_err-receive-2-clause-did
returns-in_err-receive-2-clause-did g c =
    let p = err_from_is_err_and c.from_residual-in_err-receive-2.result c.from_residual-in_err-receive-2.ensures.1 in
    let is = rw c.bytes.ensures at c.in_ok-kind.ensures in
    rw (p.1, p.2) (stopped_in_body c.args.version c.args.place _ _ _ _ _ _ _ _ _ _ _ _ c.clear.ensures.bytes c.in_ok-receive.ensures.heard is c.receive.ensures.lasts.later c.in_err-receive-2.ensures.heard c.in_err-receive-2.ensures.failed)

pub read-requires-clause-body : goal.read-requires-clause-body
read-requires-clause-body g c =
    let is = rw c.bytes.ensures at c.in_ok-kind.ensures in
    body_length c.args.version c.args.place _ _ _ _ _ _ is c.in_ok-receive-2.ensures.heard

pub returns-clause-did : goal.returns-clause-did
returns-clause-did g c =
    let is = rw c.bytes.ensures at c.in_ok-kind.ensures in
    rw c.read.ensures.bytes (came_all c.args.version c.args.place _ _ _ _ _ _ _ _ _ _ _ c.clear.ensures.bytes c.in_ok-receive.ensures.heard is c.in_ok-receive-2.ensures.heard c.read.ensures.fits c.read.ensures.read)

pub returns-in_err-kind-clause-memory : goal.returns-in_err-kind-clause-memory
returns-in_err-kind-clause-memory g c =
    let p = err_from_is_err_and c.from_residual-in_err-kind.result c.from_residual-in_err-kind.ensures.1 in
    let from = p.1 in
    let same = p.2 in
    λ is. absurd (no_want _ c.in_err-kind.ensures.1 cc)

pub returns-clause-memory : goal.returns-clause-memory
returns-clause-memory g c = λ is. absurd (no_want_of_body c.args.version _ _ _ _ c.read.ensures.read is)
