use Rattle.std.proofs.lemmas.Result.{err_from_is_err_and}
use Rattle.sip_words.specs.declared.verb.Verb.TheVariants.{Lookup}
use Rattle.sip_words.proofs.Stopping.{all_seated, takes_lookup}
use Rattle.sip_words.proofs.command.read_looks.Goals as goal

pub returns-in_err-depth-clause-refused : goal.returns-in_err-depth-clause-refused
returns-in_err-depth-clause-refused c =
    let p = err_from_is_err_and c.from_residual.result c.from_residual.ensures.1 in
    rw (p.1, p.2) (λ fitted.
    c.in_err-depth.ensures.refused Lookup takes_lookup (all_seated Lookup c.args.words.now (λ word number. tt)) fitted)

pub returns-clause-command : goal.returns-clause-command
returns-clause-command c = λ fitted.
    c.in_ok-depth.ensures.said Lookup takes_lookup (all_seated Lookup c.args.words.now (λ word number. tt)) fitted
