use Rattle.std.proofs.Common.{arith}
use Rattle.std.proofs.lemmas.Result.{err_from_is_err_and}
use Rattle.sip_words.specs.declared.verb.Verb.TheVariants.{Play}
use Rattle.sip_words.proofs.Stopping.{all_seated, takes_play}
use Rattle.sip_words.proofs.command.read_play.Goals as goal

pub returns-in_default-clause-refused : goal.returns-in_default-clause-refused
returns-in_default-clause-refused c = λ fitted.
    let named = fitted.1.1 2 (omega arith) in
    let more = fitted.1.0 in
    absurd (c.in_default.ensures (omega arith) named.0 named.1)

pub returns-in_err-task-clause-refused : goal.returns-in_err-task-clause-refused
returns-in_err-task-clause-refused c =
    let p = err_from_is_err_and c.from_residual.result c.from_residual.ensures.1 in
    rw (p.1, p.2) (λ fitted.
    c.in_err-task.ensures.refused Play takes_play (all_seated Play c.args.words.now (λ word number. tt)) fitted)

pub returns-clause-command : goal.returns-clause-command
returns-clause-command c = λ fitted.
    let read = c.in_ok-task.ensures.task Play takes_play (all_seated Play c.args.words.now (λ word number. tt)) fitted in
    (read.0, read.1, c.in-Some.ensures)
