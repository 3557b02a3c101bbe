-- Which moments can be asked of a stream, and in which run.
use Rattle.std.specs.Prelude.{◌*◌, ◌<◌, [], length, map, All}
use Rattle.sip_wire.specs.declared.version.Version.{Version}
use Rattle.sip_wire.specs.Versions.{needed}
use Rattle.sip_verifier.specs.declared.task.Task.{Task}
use Rattle.sip_verifier.specs.Draws.{challenges_of}
use Rattle.sip_verifier.specs.Exchanges.{Exchange}
use Rattle.sip_verifier.specs.runs.Runs.{Run}
use Rattle.sip_moments.specs.declared.moment.Moment.{Moment}
use Rattle.sip_moments.specs.declared.task.MomentTask.{MomentTask}
use Rattle.sip_moments.specs.Moments.{IsDegree}
use Rattle.sip_moments.specs.Sittings.{square_of}

-- there is a moment, and each has a degree from 3 to 8; a task has room for 16
pub record CanBeDone (task : MomentTask) : Type 0 where
  pub some : 0 < length task.moments.items
  pub degrees : All (λ m. IsDegree m.degree) task.moments.items

-- the version of the talk: the least one that speaks of a stream so deep
abbrev pub version_of : MomentTask → Version
version_of task = needed task.depth []

-- what is asked, at the challenges that the seed gives: one block for each moment
abbrev pub run_of : MomentTask → Exchange → Run Moment
run_of task x = record {
  version = version_of task;
  depth = task.depth;
  form = task.form;
  queries = task.moments.items;
  challenges = challenges_of (task.depth * length task.moments.items) x.seed;
}

-- a task whose seats keep what these moments want of the stream: the extension of each one's side
abbrev pub squares_of : MomentTask → Task
squares_of task = record {
  depth = task.depth;
  form = task.form;
  queries = record { items = map square_of task.moments.items };
}
