-- The promises of a run whose questions are asked and judged in some manner, on what it moved and
-- the status that it answers.
use Rattle.sip_verifier.specs.declared.status.Status.{Status}
use Rattle.sip_verifier.specs.Exchanges.{Exchange}
use Rattle.sip_verifier.specs.Snapshots.{Counts}
use Rattle.sip_verifier.specs.runs.CauseClause.{CauseClause}
use Rattle.sip_verifier.specs.runs.CompletenessClause.{CompletenessClause, Honesty}
use Rattle.sip_verifier.specs.runs.CountClause.{CountClause, Counting}
use Rattle.sip_verifier.specs.runs.Manners.{Asking}
use Rattle.sip_verifier.specs.runs.Runs.{Run}
use Rattle.sip_verifier.specs.runs.TalkClause.{TalkClause}
use Rattle.sip_verifier.specs.runs.VerdictClause.{VerdictClause}

-- the ports had failed so often `before`, and so often `now`
pub record Promises {Q A : Type 0} (asking : Asking Q A) (counting : Counting Q A)
    (honesty : Honesty Q A) (r : Run Q) (x : Exchange) (before now : Counts) (status : Status)
    : Type 0 where
  -- which lines are written, and when
  pub verdict : VerdictClause asking r x status
  -- in which order the bytes go
  pub talk : TalkClause asking r x status
  -- when each other answer comes
  pub cause : CauseClause asking r x before now status
  -- how many challenges a helper can win by, and that no line has a wrong answer but at those
  pub count : CountClause asking counting r x
  -- what an honest helper comes to
  pub complete : CompletenessClause asking honesty r x before now status
