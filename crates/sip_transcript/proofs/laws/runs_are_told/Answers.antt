use Rattle.std.proofs.Common.{length}
use Rattle.std.specs.List.{flat_map}
use Rattle.sip_wire.specs.Spelling.{spelling}
use Rattle.sip_transcript.proofs.Growing.{run-has_no_fault}
use Rattle.sip_transcript.proofs.Telling.{told-back, told-whole}
use Rattle.sip_transcript.proofs.Tests.{count-test, depth-test}
use Rattle.sip_transcript.proofs.laws.runs_are_told.Goals as goal

pub returns-clause-told : goal.returns-clause-told
returns-clause-told c = λ version depth asks replies run are. told-back version depth asks replies run.each are

pub returns-clause-whole : goal.returns-clause-whole
returns-clause-whole c = λ version depth asks replies run are.
    told-whole version depth asks replies run.each are
    (run-has_no_fault version depth asks (flat_map (spelling version) replies) (depth-test version depth run.deep run.shallow) (count-test (length asks) run.some run.most) run.each)
