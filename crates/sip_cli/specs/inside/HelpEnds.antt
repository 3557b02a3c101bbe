-- What the calls of `help`, `helplook` and `helpmom` say alike, whatever the turns.
use Rattle.std.specs.Prelude.{ℕ, List, Option}
use Rattle.sip_ports.specs.declared.port.TalkEvent.{TalkEvent}
use Rattle.sip_ports.specs.Ports.{GoesOn}
use Rattle.sip_verifier.specs.declared.status.Status.{Status}
use Rattle.sip_verifier.specs.Snapshots.{counts}
use Rattle.sip_verifier.specs.Statuses.{FaultClause}
use Rattle.sip_cli.specs.Statuses.{EndsHelp}

-- The link's talk went on; a fault of a port comes only where the count of its faults rose,
-- whatever the other ports count; and the status is one of these commands. The link counted
-- `faults`, and counts `now`.
pub record HelpEnds (old new : Option (List TalkEvent)) (faults now : ℕ) (status : Status)
    : Type 0 where
  pub said : (said : List TalkEvent) × GoesOn old new said
  pub fault : (first firsts second seconds report reports keep keeps : ℕ)
      → FaultClause (counts first second faults report keep)
      (counts firsts seconds now reports keeps) status
  pub listed : EndsHelp status
