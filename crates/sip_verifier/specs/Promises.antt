-- The seven promises of a run of `verify`, on what it moved and the status that it answers.
use Rattle.sip_verifier.specs.declared.status.Status.{Status}
use Rattle.sip_verifier.specs.declared.task.Task.{Task}
use Rattle.sip_verifier.specs.CauseClause.{CauseClause}
use Rattle.sip_verifier.specs.CompletenessClause.{CompletenessClause}
use Rattle.sip_verifier.specs.CountClause.{CountClause}
use Rattle.sip_verifier.specs.Exchanges.{Exchange}
use Rattle.sip_verifier.specs.Inquiries.{inquiry_of}
use Rattle.sip_verifier.specs.JointClause.{JointClause}
use Rattle.sip_verifier.specs.KeepClause.{KeepClause}
use Rattle.sip_verifier.specs.Snapshots.{Counts}
use Rattle.sip_verifier.specs.TalkClause.{TalkClause}
use Rattle.sip_verifier.specs.VerdictClause.{VerdictClause}

-- the ports had failed so often `before`, and so often `now`
pub record Promises (task : Task) (x : Exchange) (before now : Counts)
    (status : Status) : Type 0 where
  -- which lines are written, and when
  pub verdict : VerdictClause (inquiry_of task x) x status
  -- in which order the bytes go
  pub talk : TalkClause (inquiry_of task x) x status
  -- when each other answer comes
  pub cause : CauseClause (inquiry_of task x) x before now status
  -- how many challenges a helper can win by, and that no line has a wrong answer but at those
  pub count : CountClause (inquiry_of task x) x
  -- the same for all queries together, and the same lines
  pub joint : JointClause (inquiry_of task x) x count.lines
  -- what an honest helper comes to
  pub complete : CompletenessClause task x before now status
  -- what is kept of the talk
  pub kept : KeepClause task x status
