use Rattle.std.proofs.Common.{arith}
use Rattle.std.proofs.lemmas.Result.{err_from_is_err_and}
use Rattle.sip_words.specs.declared.verb.Verb.TheVariants.{Panel}
use Rattle.sip_words.specs.Words.{word}
use Rattle.sip_words.proofs.HelperWords.{seats_up_to, some_named, some_seats}
use Rattle.sip_words.proofs.Stopping.{takes_panel}
use Rattle.sip_words.proofs.command.read_panel.Goals as goal

pub returns-in_default-clause-refused : goal.returns-in_default-clause-refused
returns-in_default-clause-refused c = λ fitted.
    let named = fitted.1.1 2 (omega arith) in
    let more = fitted.1.0 in
    absurd (c.in_default.ensures (omega arith) named.0 named.1)

pub nonzero_div-len : goal.nonzero_div-len
nonzero_div-len c =
    let some = some_named (word c.args.words.now 3) c.in-Some.helpers.items c.in-Some.ensures in
    omega (arith, c.len.ensures.value)

pub read_task-requires-clause-some : goal.read_task-requires-clause-some
read_task-requires-clause-some c =
    rw c.len.ensures.value (some_seats c.in-Some.helpers.items (some_named (word c.args.words.now 3) c.in-Some.helpers.items c.in-Some.ensures) c.in-Some.ensures.0)

pub returns-in_err-task-clause-refused : goal.returns-in_err-task-clause-refused
returns-in_err-task-clause-refused c =
    let p = err_from_is_err_and c.from_residual.result c.from_residual.ensures.1 in
    rw (p.1, p.2) (λ fitted.
    c.in_err-task.ensures.refused Panel takes_panel (rw c.len.ensures.value (seats_up_to c.args.words.now c.in-Some.helpers.items c.in-Some.ensures)) fitted)

pub returns-clause-command : goal.returns-clause-command
returns-clause-command c = λ fitted.
    let read = c.in_ok-task.ensures.task Panel takes_panel (rw c.len.ensures.value (seats_up_to c.args.words.now c.in-Some.helpers.items c.in-Some.ensures)) fitted in
    (read.0, read.1, c.in-Some.ensures)
