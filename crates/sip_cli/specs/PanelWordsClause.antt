-- What `panel` promises over the links to its own helpers, which it makes for the run.
--
-- It makes all promises of a panel. The links count no fault, and no record of the talks is kept,
-- so no run ends by a fault of either.
use Rattle.std.specs.Prelude.{◌≢◌, ℕ, List, [], replicate}
use Rattle.sip_ports.specs.declared.port.TalkEvent.{TalkEvent}
use Rattle.sip_session.specs.PanelClause.{PanelRunClause}
use Rattle.sip_session.specs.PanelExchanges.{PanelSnapshot}
use Rattle.sip_verifier.specs.declared.status.Port.TheVariants.{Keep}
use Rattle.sip_verifier.specs.declared.status.Status.{Status}
use Rattle.sip_verifier.specs.declared.status.Status.TheVariants as statuses
use Rattle.sip_verifier.specs.declared.task.Task.{Task}

-- There are links to so many helpers. `before talks` is the moment before the run, if these are the
-- events on the links in the order of the helpers, and `now talks` the moment after it. Nothing has
-- happened on the links before.
pub record PanelWordsClause (task : Task) (helpers : ℕ)
    (before now : List (List TalkEvent) → PanelSnapshot) (status : Status) : Type 0 where
  pub talks : List (List TalkEvent)
  -- all that a run over so many links keeps
  pub keeps : PanelRunClause helpers task (before (replicate helpers [])) (now talks) status
  pub peer : status ≢ statuses.PeerFault
  pub keep : status ≢ statuses.WriteFault Keep
