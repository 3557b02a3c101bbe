use Rattle.sip_verifier.proofs.CountedReports.{report_counts}
use Rattle.sip_verifier.proofs.counting.reports_are_counted.Goals as goal

pub returns : goal.returns
returns c = λ i x status can verdict is. report_counts i x can status verdict
