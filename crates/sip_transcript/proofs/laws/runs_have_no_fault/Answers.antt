use Rattle.std.proofs.Common.{length}
use Rattle.sip_transcript.proofs.Growing.{run-has_no_fault}
use Rattle.sip_transcript.proofs.Tests.{count-test, depth-test}
use Rattle.sip_transcript.proofs.laws.runs_have_no_fault.Goals as goal

pub returns : goal.returns
returns c = λ version depth asks replies run.
    run-has_no_fault version depth asks replies (depth-test version depth run.deep run.shallow) (count-test (length asks) run.some run.most) run.each
