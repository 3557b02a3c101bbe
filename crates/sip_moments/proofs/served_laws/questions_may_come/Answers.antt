use Rattle.sip_moments.proofs.ServedTurns.{run_may}
use Rattle.sip_moments.proofs.served_laws.questions_may_come.Goals as goal

pub returns : goal.returns
returns c = run_may
