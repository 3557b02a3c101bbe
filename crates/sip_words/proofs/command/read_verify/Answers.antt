use Rattle.std.proofs.lemmas.Result.{err_from_is_err_and}
use Rattle.sip_words.specs.declared.verb.Verb.TheVariants.{Verify}
use Rattle.sip_words.proofs.Stopping.{all_seated, takes_verify}
use Rattle.sip_words.proofs.command.read_verify.Goals as goal

pub returns-in_err-task-clause-refused : goal.returns-in_err-task-clause-refused
returns-in_err-task-clause-refused c =
    let p = err_from_is_err_and c.from_residual.result c.from_residual.ensures.1 in
    rw (p.1, p.2) (λ fitted.
    c.in_err-task.ensures.refused Verify takes_verify (all_seated Verify c.args.words.now (λ word number. tt)) fitted)

pub returns-clause-command : goal.returns-clause-command
returns-clause-command c = λ fitted.
    c.in_ok-task.ensures.task Verify takes_verify (all_seated Verify c.args.words.now (λ word number. tt)) fitted
