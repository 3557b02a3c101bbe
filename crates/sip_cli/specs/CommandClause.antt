-- All that a command keeps, from the moment before it to the moment after, with the status that it
-- answers.
use Rattle.std.specs.Prelude.{◌≡◌, ℕ, List, Some, None, IsSome}
use Rattle.arrayvec.specs.ArrayVec.{ArrayVec}
use Rattle.sip_cli.specs.CopyClause.{CopyClause}
use Rattle.sip_words.specs.declared.command.Command.{Command}
use Rattle.sip_words.specs.declared.command.Command.TheVariants.{Verify, Help, Audit, Show, Convert}
use Rattle.sip_words.specs.declared.command.Command.TheVariants.{Gen, Lines, Widen, Play, Lookup}
use Rattle.sip_words.specs.declared.command.Command.TheVariants.{HelpLook, Moments, HelpMoments}
use Rattle.sip_words.specs.declared.command.Command.TheVariants.{Panel, Serve}
use Rattle.sip_words.specs.declared.helper_name.HelperName.{HelperName}
use Rattle.sip_cli.specs.HelpClause.{HelpClause}
use Rattle.sip_cli.specs.ServeClause.{ServeClause}
use Rattle.sip_cli.specs.Statuses.{Ends}
use Rattle.sip_helper.specs.Serving.{Serves}
use Rattle.sip_lookup.specs.declared.task.LookTask.{LookTask}
use Rattle.sip_lookup.specs.Promises.{LookPromises}
use Rattle.sip_lookup.specs.Serving.{ServesLooks}
use Rattle.sip_moments.specs.declared.task.MomentTask.{MomentTask}
use Rattle.sip_moments.specs.Manner.{asking, counting, honesty}
use Rattle.sip_moments.specs.Serving.{ServesMoments}
use Rattle.sip_moments.specs.Tasks.{run_of}
use Rattle.sip_stream.specs.declared.form.Form.{Form}
use Rattle.sip_stream.specs.declared.form.Form.TheVariants.{Text, Wide}
use Rattle.sip_stream.specs.Layouts.{made_form}
use Rattle.sip_transcript.specs.Auditing.{Audits, TellsAudit, Audit as Audited}
use Rattle.sip_transcript.specs.Conversions.{in_version_2}
use Rattle.sip_transcript.specs.Listings.{listing}
use Rattle.sip_transcript.specs.Writing.{Writes}
use Rattle.sip_verifier.specs.declared.status.Status.{Status}
use Rattle.sip_verifier.specs.declared.task.Task.{Task}
use Rattle.sip_verifier.specs.Exchanges.{Exchange, Tells}
use Rattle.sip_verifier.specs.Snapshots.{Counts, Snapshot, IsTold}
use Rattle.sip_verifier.specs.Promises.{Promises}
use Rattle.sip_verifier.specs.runs.Promises as runs
use Rattle.sip_verifier.specs.Statuses.{FaultClause}

-- an exchange without what is new on the record of the talk
abbrev pub unkept : Exchange → Exchange
unkept x = record x { kept = None }

-- the five promises of a run that asks for moments
abbrev pub MomentPromises : MomentTask → Exchange → Counts → Counts → Status → Type 0
MomentPromises task x before now status =
    runs.Promises asking counting honesty (run_of task x) x before now status

-- `Is command` says which command it is
pub record CommandClause (Is : Command → Type 0) (before now : Snapshot) (status : Status)
    : Type 0 where
  -- `verify`: the seven promises, on the exchange that the ports tell
  pub verify : (task : Task) → Is (Verify task) → (x : Exchange) → Tells before now x
      → Promises task x before.faults now.faults status
  -- `play`: the same, whatever helper it names
  pub play : (task : Task) (name : HelperName) → Is (Play task name)
      → (x : Exchange) → Tells before now x
      → Promises task x before.faults now.faults status
  -- `panel`: the same, over the one link that there is, whatever helpers it names
  pub panel : (task : Task) (names : ArrayVec HelperName) → Is (Panel task names)
      → (x : Exchange) → Tells before now x
      → Promises task x before.faults now.faults status
  -- `gen`: the stream's records are copied to the report in the form in which they are made
  pub made : (depth : ℕ) → Is (Gen depth) → (bytes : List ℕ) → before.first ≡ Some bytes
      → CopyClause depth (made_form depth) (made_form depth) bytes
      now.first before.report now.report status
  -- `lines`: they are copied as lines of text
  pub lines : (form : Form) (depth : ℕ) → Is (Lines form depth)
      → (bytes : List ℕ) → before.first ≡ Some bytes
      → CopyClause depth form Text bytes now.first before.report now.report status
  -- `widen`: they are copied as wide records
  pub wide : (form : Form) (depth : ℕ) → Is (Widen form depth)
      → (bytes : List ℕ) → before.first ≡ Some bytes
      → CopyClause depth form Wide bytes now.first before.report now.report status
  -- `help`: a talk is served
  pub help : Is Help → HelpClause Serves before.talk now.talk status
  -- `audit`: a stored run is judged again, by what the ports tell
  pub audit : (form : Form) → Is (Audit form) → (a : Audited) → TellsAudit before now a
      → Audits form a before.faults now.faults status
  -- where the three ports that it calls tell, they go on telling, so there is what it moved
  pub audit_moves : (form : Form) → Is (Audit form) → IsSome before.first → IsSome before.second
      → IsSome before.report → (a : Audited) × TellsAudit before now a
  -- `show`: the transcript is listed
  pub show : Is Show → (bytes : List ℕ) → before.second ≡ Some bytes
      → Writes listing bytes now.second before.report now.report status
  -- `convert`: it is written in version 2
  pub convert : Is Convert → (bytes : List ℕ) → before.second ≡ Some bytes
      → Writes in_version_2 bytes now.second before.report now.report status
  -- `lookup`: the five promises of lookups, on that exchange; no record of the talk is kept
  pub look : (task : LookTask) → Is (Lookup task) → (x : Exchange) → Tells before now x
      → LookPromises task (unkept x) before.faults now.faults status
  -- `helplook`: a talk of lookups is served
  pub help_look : Is HelpLook → HelpClause ServesLooks before.talk now.talk status
  -- `moments`: the five promises of moments, in the same way
  pub moments : (task : MomentTask) → Is (Moments task) → (x : Exchange) → Tells before now x
      → MomentPromises task (unkept x) before.faults now.faults status
  -- `helpmom`: a talk of moments is served
  pub help_moments : Is HelpMoments → HelpClause ServesMoments before.talk now.talk status
  -- `serve`: a talk of questions is served over the stream
  pub serve : (form : Form) → Is (Serve form)
      → ServeClause form before.first now.first before.second now.second before.talk now.talk
      status
  -- ports that tell go on telling, so there is an exchange that they tell
  pub moves : IsTold before → (x : Exchange) × Tells before now x
  -- whatever the ports tell, a fault of a port comes only where its own count rose
  pub fault : FaultClause before.faults now.faults status
  -- no status comes but those of the command
  pub listed : (command : Command) → Is command → Ends command status
