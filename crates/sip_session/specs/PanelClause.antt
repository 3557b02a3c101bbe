-- What a panel promises, of any helpers and of honest ones.
use Rattle.std.specs.Prelude.{◌≢◌, ℕ, List, []}
use Rattle.sip_verifier.specs.declared.status.Status.{Status}
use Rattle.sip_verifier.specs.declared.task.Task.{Task}
use Rattle.sip_verifier.specs.Snapshots.{Counts}
use Rattle.sip_verifier.specs.Questions.{asking}
use Rattle.sip_verifier.specs.runs.CauseClause.{CanBeJudged, CauseClause}
use Rattle.sip_verifier.specs.Statuses.{FaultClause, IsListed}
use Rattle.sip_session.specs.PanelCounts.{JointCountOnPanel}
use Rattle.sip_session.specs.PanelEnds.{Ends}
use Rattle.sip_session.specs.PanelExchanges.{PanelExchange, PanelIsTold, PanelSnapshot, PanelTells}
use Rattle.sip_session.specs.PanelExchanges.{without_links}
use Rattle.sip_session.specs.PanelHonesty.{AnswersAreOwn, AreDroppedRightly, IsCarried}
use Rattle.sip_session.specs.Panels.{Attempt, AreAttempts, inquiry_of_panel}

-- A task was done with so many helpers. The ports had failed so often `before`, and so often `now`.
pub record PanelClause (helpers : ℕ) (task : Task) (x : PanelExchange) (before now : Counts)
    (status : Status) : Type 0 where
  -- who was asked what, and what came of it
  pub attempts : List Attempt
  -- A helper is asked a query only where it is left, and each lower one was dropped. The line of
  -- an answer has what replies state that are accepted at the block of the attempt's seat, and a
  -- helper is dropped exactly by the first fault of its replies.
  pub are : AreAttempts helpers task x.seed x.stream attempts
  -- the talk of each link and the lines, by the status
  pub ends : Ends helpers task x attempts status
  -- when each status comes; a query that is too wide is named by its own number
  pub cause : CauseClause asking (inquiry_of_panel helpers task x.seed) (without_links x) before now
      status
  -- a helper was asked only where the input is good and the queries may be asked, whatever the
  -- status
  pub asked : attempts ≢ [] → CanBeJudged asking (inquiry_of_panel helpers task x.seed)
      (without_links x)
  -- how many challenges the helpers can win by together, and that no line of an answer is wrong but
  -- at those, whichever helper brought it about
  pub joint : JointCountOnPanel helpers task x attempts
  -- an honest helper is dropped for want of memory, for its limits or for a negative entry alone
  pub rightly : AreDroppedRightly helpers task x attempts
  -- one honest helper is enough for an answer to each query, unless memory ran out
  pub carried : IsCarried helpers task x attempts before now status
  -- where all helpers are honest, the answers are the stream's own
  pub own : AnswersAreOwn helpers task x attempts status

-- all that a panel keeps, from the moment before it to the moment after
pub record PanelRunClause (helpers : ℕ) (task : Task) (before now : PanelSnapshot)
    (status : Status) : Type 0 where
  -- the promises, on the exchange that the ports tell
  pub promises : (x : PanelExchange) → PanelTells before now x
      → PanelClause helpers task x before.faults now.faults status
  -- ports that tell go on telling, so there is such an exchange
  pub moves : PanelIsTold before → (x : PanelExchange) × PanelTells before now x
  -- whatever the ports tell, a fault of a port comes only where its own count rose
  pub fault : FaultClause before.faults now.faults status
  -- no status comes but those of `verify`, and of these none that is the fault of a link or of a
  -- record of the talk: these are counted as 0
  pub listed : IsListed status
