use Rattle.std.proofs.Common.{refl}
use Rattle.std.specs.Fmt.{digits}
use Rattle.sip_verifier.proofs.completeness.honest_run_by_hand.Goals as goal

pub returns-clause-report : goal.returns-clause-report
unfolding digits
returns-clause-report c = refl
