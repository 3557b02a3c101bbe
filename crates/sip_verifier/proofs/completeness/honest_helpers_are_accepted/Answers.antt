use Rattle.sip_verifier.proofs.CompleteRuns.{completes}
use Rattle.sip_verifier.proofs.completeness.honest_helpers_are_accepted.Goals as goal

pub returns : goal.returns
returns c = λ task x before now status some most fits verdict cause is. completes task x some most fits before now status verdict cause
