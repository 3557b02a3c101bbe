use Rattle.std.proofs.Common.{Ok, Err}
use Rattle.std.proofs.lemmas.Result.{err_from_is_err_and}
use Rattle.sip_wire.proofs.ReadingLaws.{read_frame-fault}
use Rattle.sip_wire.proofs.AtHand.{all_there, body_there, never_closed, no_body_yet, no_head_yet, read_whole, under_body, under_head}
use Rattle.sip_wire.proofs.at_hand.read.Goals as goal

pub returns-then-bytes-lt-HEAD-clause-answer : goal.returns-then-bytes-lt-HEAD-clause-answer
returns-then-bytes-lt-HEAD-clause-answer c = no_head_yet c.args.version c.args.place c.args.bytes.now c.if-bytes-lt-HEAD.true

pub returns-then-bytes-lt-HEAD-clause-closed : goal.returns-then-bytes-lt-HEAD-clause-closed
returns-then-bytes-lt-HEAD-clause-closed c = λ _. under_head c.args.version c.args.place c.args.bytes.now c.if-bytes-lt-HEAD.true

pub returns-in_err-kind-clause-answer : goal.returns-in_err-kind-clause-answer
returns-in_err-kind-clause-answer c =
    let p = err_from_is_err_and c.from_residual.result c.from_residual.ensures.1 in
    rw (p.1, p.2) (read_frame-fault c.args.version c.args.place c.args.bytes.now _ c.in_err-kind.ensures.0 c.requires)

pub returns-then-bytes-len-clause-answer : goal.returns-then-bytes-len-clause-answer
returns-then-bytes-len-clause-answer c = no_body_yet c.args.version c.args.place c.args.bytes.now _ _ c.in_ok-kind.ensures c.if-bytes-len.true

pub returns-then-bytes-len-clause-closed : goal.returns-then-bytes-len-clause-closed
returns-then-bytes-len-clause-closed c = λ _. under_body c.args.version c.args.place c.args.bytes.now _ _ c.in_ok-kind.ensures c.if-bytes-len.true

pub read_message-requires-clause-body : goal.read_message-requires-clause-body
read_message-requires-clause-body c = body_there c.args.version c.args.place c.args.bytes.now _ _ c.in_ok-kind.ensures (all_there c.args.version c.args.place c.args.bytes.now _ _ c.requires c.in_ok-kind.ensures c.if-bytes-len.false)

pub returns-in-Ok-clause-answer : goal.returns-in-Ok-clause-answer
returns-in-Ok-clause-answer c = read_whole c.args.version c.args.place c.args.bytes.now _ _ (Ok c.read_message.new.message) c.if-bytes-lt-HEAD.false c.in_ok-kind.ensures (all_there c.args.version c.args.place c.args.bytes.now _ _ c.requires c.in_ok-kind.ensures c.if-bytes-len.false) c.in-Ok.ensures.fits c.in-Ok.ensures.read

pub returns-in-Err-clause-answer : goal.returns-in-Err-clause-answer
returns-in-Err-clause-answer c = read_whole c.args.version c.args.place c.args.bytes.now _ _ (Err c.in-Err.fault) c.if-bytes-lt-HEAD.false c.in_ok-kind.ensures (all_there c.args.version c.args.place c.args.bytes.now _ _ c.requires c.in_ok-kind.ensures c.if-bytes-len.false) c.in-Err.ensures.fits c.in-Err.ensures.read

pub returns-in-Err-clause-closed : goal.returns-in-Err-clause-closed
returns-in-Err-clause-closed c = λ e. absurd (never_closed c.args.version c.in_ok-kind.kind _ c.in-Err.fault c.in-Err.ensures.read cc)
