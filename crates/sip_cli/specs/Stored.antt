-- An audit under the top call, of what another command left under it.
use Rattle.std.specs.Prelude.{◌≡◌, ◌⊎◌, ℕ, IsTrue, List, Some}
use Rattle.sip_stream.specs.declared.form.Form.{Form}
use Rattle.sip_verifier.specs.declared.status.Status.{Status}
use Rattle.sip_verifier.specs.declared.status.Status.TheVariants.{Wrote}
use Rattle.sip_verifier.specs.declared.task.Task.{Task}
use Rattle.sip_verifier.specs.Exchanges.{Appends, Exchange, Tells}
use Rattle.sip_verifier.specs.Snapshots.{Snapshot}
use Rattle.sip_transcript.specs.Auditing.{TellsAudit, is_verdict, Audit as Audited}
use Rattle.sip_words.specs.declared.command.Command.{Command}
use Rattle.sip_words.specs.declared.command.Command.TheVariants.{Verify, Audit, Convert, Play}
use Rattle.sip_words.specs.declared.helper_name.HelperName.{HelperName}
use Rattle.sip_cli.specs.CommandClause.{CommandClause}
use Rattle.sip_words.specs.Words.{Spells}

-- words spell this command, and all was kept that it keeps
pub record Did (command : Command) (before now : Snapshot) (status : Status) : Type 0 where
  pub words : List (List ℕ)
  pub spelled : Spells words command
  pub keeps : CommandClause (Spells words) before now status

-- `audit` judged a stream in this form, and told what it moved
pub record DidAudit (form : Form) (a : Audited) (status : Status) : Type 0 where
  pub before : Snapshot
  pub now : Snapshot
  pub did : Did (Audit form) before now status
  pub tells : TellsAudit before now a

-- `verify`, or `play` over a link that it was given, came to a verdict and told what it kept: the
-- transcript that the audit has, of a run over the same stream.
pub record DidKeep (task : Task) (x : Exchange) (status : Status) (a : Audited) : Type 0 where
  pub before : Snapshot
  pub now : Snapshot
  pub did : Did (Verify task) before now status
      ⊎ ((name : HelperName) × Did (Play task name) before now status)
  pub tells : Tells before now x
  pub reached : IsTrue (is_verdict status)
  pub kept : x.kept ≡ Some a.stored
  pub stream : a.stream ≡ x.stream

-- `convert` read the transcript of the one audit and wrote all of it in version 2, and told what it
-- wrote: the transcript that the other audit has, over the same stream.
pub record DidConvert (a b : Audited) : Type 0 where
  pub before : Snapshot
  pub now : Snapshot
  pub did : Did Convert before now Wrote
  pub had : before.second ≡ Some a.stored
  pub wrote : Appends before.report now.report (Some b.stored)
  pub stream : b.stream ≡ a.stream
