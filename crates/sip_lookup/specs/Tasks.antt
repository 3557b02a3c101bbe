-- Which lookups a run can do, and what it asks of a stream.
use Rattle.std.specs.Prelude.{◌*◌, ◌<◌, All, [], length}
use Rattle.sip_wire.specs.declared.version.Version.{Version}
use Rattle.sip_wire.specs.Versions.{needed}
use Rattle.sip_verifier.specs.Draws.{challenges_of}
use Rattle.sip_verifier.specs.Exchanges.{Exchange}
use Rattle.sip_verifier.specs.runs.Runs.{Run}
use Rattle.sip_lookup.specs.Lookups.{CanLook}
use Rattle.sip_lookup.specs.declared.lookup.Lookup.{Lookup}
use Rattle.sip_lookup.specs.declared.task.LookTask.{LookTask}

-- the version of the talk: the least one at the depth
abbrev pub version_of : LookTask → Version
version_of task = needed task.depth []

-- there is a lookup, and each is at an item of the stream; a task has room for 16
pub record CanLookUp (task : LookTask) : Type 0 where
  pub some : 0 < length task.lookups.items
  pub items : All (CanLook task.depth) task.lookups.items

-- what a run asks: its lookups, at the challenges that the seed gives, a block for each
abbrev pub run_of : LookTask → Exchange → Run Lookup
run_of task x = record {
  version = version_of task;
  depth = task.depth;
  form = task.form;
  queries = task.lookups.items;
  challenges = challenges_of (task.depth * length task.lookups.items) x.seed;
}
