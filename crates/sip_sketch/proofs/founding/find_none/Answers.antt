-- Why nothing was loaded is why nothing is begun.
use Rattle.std.proofs.lemmas.Result.{err_from_is_err_and}
use Rattle.sip_sketch.proofs.founding.find_none.Goals as goal

pub returns-in_err-load_file-clause-cause : goal.returns-in_err-load_file-clause-cause
returns-in_err-load_file-clause-cause g c = λ before now.
    let p = err_from_is_err_and c.from_residual.result c.from_residual.ensures.1 in
    rw (p.1, p.2) (c.in_err-load_file.ensures.cause before now)
