-- The questions are those of the run, with the numbers of its stream.
use Rattle.sip_run_tests.proofs.whole_run.ended.Goals as goal

pub returns : goal.returns
returns c =
    let run = c.in_ok-due.ensures.begun in
    (run.0, run.1, (c.in_ok-into_questions.ensures run.0 run.1 run.2 run.3).0)
