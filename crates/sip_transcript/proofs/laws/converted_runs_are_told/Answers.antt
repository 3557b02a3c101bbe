use Rattle.sip_transcript.proofs.Converted.{converted_told, run_two}
use Rattle.sip_transcript.proofs.laws.converted_runs_are_told.Goals as goal

pub returns-clause-told : goal.returns-clause-told
returns-clause-told c = λ version depth asks replies run are. converted_told version depth asks replies run are

pub returns-clause-run : goal.returns-clause-run
returns-clause-run c = λ version depth asks run. run_two version depth asks run
