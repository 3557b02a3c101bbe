-- What a call does with its ports where it does a command that keeps a sketch.
use Rattle.std.specs.Prelude.{ℕ, List, Option}
use Rattle.sip_ports.specs.declared.port.TalkEvent.{TalkEvent}
use Rattle.sip_sketch.specs.Beginnings.{Begins}
use Rattle.sip_sketch.specs.Merging.{Merges}
use Rattle.sip_sketch.specs.Risen.{Counts, counts}
use Rattle.sip_sketch.specs.Showing.{Shows}
use Rattle.sip_sketch.specs.Watching.{Watches}
use Rattle.sip_sketch.specs.declared.status.SketchStatus.{SketchStatus}
use Rattle.sip_keeping.specs.declared.command.SketchCommand.{SketchCommand}
use Rattle.sip_keeping.specs.declared.command.SketchCommand.TheVariants as command

-- What the ports of a run tell at a moment: the bytes to come of the stream and of the seed, what
-- the desk's file had at the start, the talk of the desk, the files that are loaded without a lock,
-- and the report.
pub record Told : Type 0 where
  pub first : Option (List ℕ)
  pub second : Option (List ℕ)
  pub start : Option (List ℕ)
  pub desk : Option (List TalkEvent)
  pub files : Option (ℕ → Option (List ℕ))
  pub report : Option (List TalkEvent)

abbrev pub told : Option (List ℕ) → Option (List ℕ) → Option (List ℕ) → Option (List TalkEvent)
    → Option (ℕ → Option (List ℕ)) → Option (List TalkEvent) → Told
told first second start desk files report = record {
  first = first;
  second = second;
  start = start;
  desk = desk;
  files = files;
  report = report;
}

-- what each command did between two moments
abbrev pub Does : SketchCommand → Told → Told → SketchStatus → Type 0
Does (command.Begin depth part parts kinds) before now status =
    Begins depth (record { count = parts; first = part; last = part }) kinds.items before.second
    before.start before.desk now.desk status
Does (command.Watch form at every) before now status =
    Watches form at every before.start before.first before.desk now.first now.desk status
Does (command.Merge parts) before now status =
    Merges before.files parts before.start before.desk now.desk status
Does command.Seats before now status = Shows before.files before.report now.report status

-- the ports that a command has no use for are as they were
abbrev pub Rests : SketchCommand → Type 0 → Type 0 → Type 0 → Type 0 → Type 0 → Type 0
Rests (command.Begin depth part parts kinds) first second desk files report =
    first × files × report
Rests (command.Watch form at every) first second desk files report = second × files × report
Rests (command.Merge parts) first second desk files report = first × second × report
Rests command.Seats first second desk files report = first × second × desk

-- The counts of faults of a run. `seats` loads the sketch as the first of the files, and each other
-- command at the desk.
abbrev pub counts_of : SketchCommand → ℕ → ℕ → ℕ → ℕ → ℕ → Counts
counts_of (command.Begin depth part parts kinds) first second desk files report =
    counts first second desk files report
counts_of (command.Watch form at every) first second desk files report =
    counts first second desk files report
counts_of (command.Merge parts) first second desk files report =
    counts first second desk files report
counts_of command.Seats first second desk files report = counts first second files files report
