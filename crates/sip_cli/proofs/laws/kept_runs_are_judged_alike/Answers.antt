use Rattle.sip_cli.proofs.StoredRuns.{kept_alike}
use Rattle.sip_cli.proofs.laws.kept_runs_are_judged_alike.Goals as goal

pub returns : goal.returns
returns c = λ task x status given a kept audit. kept_alike task x status a kept given audit
