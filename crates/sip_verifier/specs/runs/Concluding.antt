-- What a call did that asks all queries of a run.
use Rattle.std.specs.Prelude.{ℕ, List, Option, Result, Ok, Err}
use Rattle.sip_ports.specs.declared.port.TalkEvent.{TalkEvent}
use Rattle.sip_ports.specs.Ports.{GoesOn, outs}
use Rattle.sip_verifier.specs.declared.status.Status.{Status}
use Rattle.sip_verifier.specs.declared.status.Status.TheVariants as statuses
use Rattle.sip_verifier.specs.Exchanges.{Exchange}
use Rattle.sip_verifier.specs.Snapshots.{Counts}
use Rattle.sip_verifier.specs.runs.CauseClause.{CauseClause}
use Rattle.sip_verifier.specs.runs.Manners.{Asking}
use Rattle.sip_verifier.specs.runs.Runs.{Run}
use Rattle.sip_verifier.specs.runs.TalkClause.{TalkClause}
use Rattle.sip_verifier.specs.runs.VerdictClause.{VerdictClause}

-- some bytes were written
abbrev pub Reports : Option (List TalkEvent) → Option (List TalkEvent) → Type 0
Reports blank full = (bytes : List ℕ) × GoesOn blank full (outs bytes)

-- the first three promises of a run that ends with this status; those of counts and of completeness
-- follow from them
pub record Ended {Q A : Type 0} (asking : Asking Q A) (r : Run Q) (x : Exchange)
    (before now : Counts) (status : Status) : Type 0 where
  pub verdict : VerdictClause asking r x status
  pub talk : TalkClause asking r x status
  pub cause : CauseClause asking r x before now status

-- the status of a run whose queries came to this
abbrev pub status_of : Result (Unit {0}) Status → Status
status_of (Ok _) = statuses.Accepted
status_of (Err status) = status
