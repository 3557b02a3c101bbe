use Rattle.sip_cli.proofs.StoredRuns.{converted_alike, tell_same}
use Rattle.sip_cli.proofs.laws.converted_runs_are_judged_alike.Goals as goal

pub returns-clause-same : goal.returns-clause-same
returns-clause-same c = λ a b converted. tell_same a b converted

pub returns-clause-judged : goal.returns-clause-judged
returns-clause-judged c = λ form a b given other converted first second. converted_alike a b converted form given other first second
