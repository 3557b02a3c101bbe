use Rattle.sip_verifier.proofs.JointReports.{task_counted}
use Rattle.sip_session.proofs.counting.runs_are_counted_jointly.Goals as goal

pub returns : goal.returns
returns c = λ task x status can some verdict listed. task_counted task x can some status verdict listed
