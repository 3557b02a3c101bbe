-- All that a call does with its five ports where it does a command.
use Rattle.std.specs.Prelude.{◌≡◌, ◌⊎◌, ℕ, List, Option}
use Rattle.sip_words.specs.declared.command.Command.{Command}
use Rattle.sip_words.specs.declared.command.Command.TheVariants.{Audit, Serve}
use Rattle.sip_cli.specs.CommandClause.{CommandClause}
use Rattle.sip_cli.specs.Statuses.{IsCopy, IsHelp, IsRendering, IsUnkept, ReadsNoSeed}
use Rattle.sip_ports.specs.declared.port.TalkEvent.{TalkEvent}
use Rattle.sip_ports.specs.Ports.{Rose}
use Rattle.sip_stream.specs.declared.form.Form.{Form}
use Rattle.sip_verifier.specs.declared.status.Status.{Status}
use Rattle.sip_verifier.specs.declared.status.Status.TheVariants.{OutOfMemory}
use Rattle.sip_verifier.specs.Exchanges.{TakesAtMost}
use Rattle.sip_verifier.specs.Snapshots.{Snapshot, port, snapshot}

-- A port at the moment before a command and at the moment after it, with what its trait says of it:
-- what it tells, and how often it has failed or wanted memory.
pub record Used (P T : Type 0) : Type 0 where
  pub told : P → Option (List T)
  pub faults : P → ℕ
  pub wants : P → ℕ
  pub old : P
  pub new : P

abbrev pub used : {P T : Type 0} → (P → Option (List T)) → (P → ℕ) → (P → ℕ) → P → P → Used P T
used told faults wants old new =
    record { told = told; faults = faults; wants = wants; old = old; new = new }

-- it is as it was
abbrev pub Rests : {P T : Type 0} → Used P T → Type 0
Rests p = p.new ≡ p.old

-- memory was refused to it
abbrev pub Wanted : {P T : Type 0} → Used P T → Type 0
Wanted p = Rose (p.wants p.old) (p.wants p.new)

-- the ports at the moment before the command
abbrev pub before_done : {A B L K C : Type 0} → Used A ℕ → Used B ℕ → Used L TalkEvent
    → Used K TalkEvent → Used C TalkEvent → Snapshot
before_done first second peer report keep = snapshot
    (port first.told first.faults first.old) (port second.told second.faults second.old)
    (port peer.told peer.faults peer.old) (port report.told report.faults report.old)
    (port keep.told keep.faults keep.old)

-- the ports at the moment after it
abbrev pub after_done : {A B L K C : Type 0} → Used A ℕ → Used B ℕ → Used L TalkEvent
    → Used K TalkEvent → Used C TalkEvent → Snapshot
after_done first second peer report keep = snapshot
    (port first.told first.faults first.new) (port second.told second.faults second.new)
    (port peer.told peer.faults peer.new) (port report.told report.faults report.new)
    (port keep.told keep.faults keep.new)

-- `Is command` says which command it is
pub record DoneClause {A B L K C : Type 0} (Is : Command → Type 0) (first : Used A ℕ)
    (second : Used B ℕ) (peer : Used L TalkEvent) (report : Used K TalkEvent)
    (keep : Used C TalkEvent) (status : Status) : Type 0 where
  -- what each command promises, between the two moments
  pub keeps : CommandClause Is (before_done first second peer report keep)
      (after_done first second peer report keep) status
  -- copies and helpers leave the other ports alone, that of the record of a talk among them
  pub copies_apart : (command : Command) → Is command → IsCopy command
      → Rests second × Rests peer × Rests keep
  -- copies take no memory, so they want it only where a port of theirs did
  pub copies_want : (command : Command) → Is command → IsCopy command → status ≡ OutOfMemory
      → Wanted first ⊎ Wanted report
  pub helps_apart : (command : Command) → Is command → IsHelp command
      → Rests first × Rests second × Rests report × Rests keep
  -- one who serves a stream that it has reads that alone, twice
  pub serves_apart : (form : Form) → Is (Serve form) → Rests report × Rests keep
  -- lookups and moments keep no record of their talk
  pub unkept : (command : Command) → Is command → IsUnkept command → Rests keep
  -- An audit leaves the link and the record of a talk alone, and to write what a transcript tells
  -- all ports but that of the transcript and the report.
  pub audits_apart : (form : Form) → Is (Audit form) → Rests peer × Rests keep
  pub shows_apart : (command : Command) → Is command → IsRendering command
      → Rests first × Rests peer × Rests keep
  -- no more than 32 bytes of the second source are taken, but where it is no seed
  pub seed : ((command : Command) → Is command → ReadsNoSeed command → ⊥)
      → TakesAtMost 32 (second.told second.old) (second.told second.new)
