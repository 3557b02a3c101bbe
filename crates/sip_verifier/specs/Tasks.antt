-- Which tasks can be done.
use Rattle.std.specs.Prelude.{ℕ, ◌<◌, IsTrue, length, All}
use Rattle.sip_vector.specs.declared.query.Query.{Query}
use Rattle.sip_vector.specs.Answers.{Fits}
use Rattle.sip_vector.specs.Built.{is_built}
use Rattle.sip_wire.specs.declared.version.Version.{Version}
use Rattle.sip_wire.specs.Versions.{needed}
use Rattle.sip_verifier.specs.declared.task.Task.{Task}

-- the version of the talk: the least one in which the task's queries can be asked at its depth
abbrev pub version_of : Task → Version
version_of task = needed task.depth task.queries.items

-- the query's kind is built, and the query fits the depth
abbrev pub CanBeAsked : ℕ → Query → Type 0
CanBeAsked depth query = IsTrue (is_built query) × Fits depth query

-- there is a query, and each can be asked; a task has room for 16
pub record CanBeDone (task : Task) : Type 0 where
  pub some : 0 < length task.queries.items
  pub asked : All (CanBeAsked task.depth) task.queries.items
