use Rattle.sip_transcript.proofs.Agreed.{runs_agree}
use Rattle.sip_transcript.proofs.laws.accepted_runs_agree.Goals as goal

pub returns : goal.returns
returns c = λ i x y more same e w v. runs_agree i x y more same e w v
