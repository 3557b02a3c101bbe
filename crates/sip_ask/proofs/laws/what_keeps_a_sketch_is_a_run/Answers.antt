use Rattle.sip_ask.proofs.SketchRuns.{begin-run, merge-run, watch-run}
use Rattle.sip_ask.proofs.laws.what_keeps_a_sketch_is_a_run.Goals as goal

pub returns-clause-begin : goal.returns-clause-begin
returns-clause-begin c = λ depth part kinds left start talk new status did. begin-run start talk new depth part kinds left status did

pub returns-clause-watch : goal.returns-clause-watch
returns-clause-watch c = λ form at every start left rest talk new status did. watch-run start talk new form at every left rest status did

pub returns-clause-merge : goal.returns-clause-merge
returns-clause-merge c = λ files count start talk new status did. merge-run start talk new files count status did
