-- What is asked of a stream, and at which challenges.
use Rattle.std.specs.Prelude.{List}
use Rattle.sip_vector.specs.declared.query.Query.{Query}
use Rattle.sip_verifier.specs.declared.task.Task.{Task}
use Rattle.sip_verifier.specs.Draws.{drawn}
use Rattle.sip_verifier.specs.Exchanges.{Exchange}
use Rattle.sip_verifier.specs.runs.Runs.{Run}
use Rattle.sip_verifier.specs.Tasks.{version_of}

-- the queries, at the challenges of all of them
abbrev pub Inquiry : Type 0
Inquiry = Run Query

-- what is asked of a task's stream, at the challenges that its seed gives: these, of any sort
abbrev pub run_over : {Q : Type 0} → Task → List Q → Exchange → Run Q
run_over task queries x = record {
  version = version_of task;
  depth = task.depth;
  form = task.form;
  queries = queries;
  challenges = drawn task x.seed;
}

-- what a run of a task asks
abbrev pub inquiry_of : Task → Exchange → Inquiry
inquiry_of task x = run_over task task.queries.items x
