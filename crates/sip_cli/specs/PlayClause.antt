-- What `play` promises over the link to its own helper, which it makes for the run.
--
-- It makes the seven promises of `verify`. The link counts no fault, so no run ends by one. The
-- honest helper replies what the turns of a helper owe, and a good run against it is accepted. From
-- the mute one nothing is received, so a query that is rejected is so at its first reply.
use Rattle.std.specs.Prelude.{◌≡◌, ◌≢◌, List, []}
use Rattle.sip_duel.specs.Accepting.{DuelAccepts}
use Rattle.sip_duel.specs.Muting.{DuelCloses}
use Rattle.sip_duel.specs.Story.{IsHonestTalk}
use Rattle.sip_ports.specs.declared.port.TalkEvent.{TalkEvent}
use Rattle.sip_ports.specs.Ports.{heard}
use Rattle.sip_verifier.specs.declared.status.Status.{Status}
use Rattle.sip_verifier.specs.declared.status.Status.TheVariants as statuses
use Rattle.sip_verifier.specs.declared.task.Task.{Task}
use Rattle.sip_verifier.specs.Exchanges.{Exchange, Tells}
use Rattle.sip_verifier.specs.Snapshots.{Snapshot}
use Rattle.sip_verifier.specs.RunClause.{RunClause}

-- `before` is the moment before the run, at which nothing has happened on the link, and `now talk`
-- the moment after it if these are the events on the link; `IsHonest` says that the helper is the
-- honest one, and `IsMute` that it is the mute one
pub record PlayClause (task : Task) (IsHonest IsMute : Type 0) (before : Snapshot)
    (now : List TalkEvent → Snapshot) (status : Status) : Type 0 where
  pub talk : List TalkEvent
  -- all that a run of `verify` keeps
  pub keeps : RunClause task before (now talk) status
  pub peer : status ≢ statuses.PeerFault
  -- each byte that was heard is one that the turns owed
  pub honest : IsHonest → IsHonestTalk talk
  -- where the seed and the stream are good and no port fails, it is accepted with the stream's own
  -- answers, or memory ran out
  pub accepts : IsHonest → (x : Exchange) → Tells before (now talk) x
      → DuelAccepts task x before.faults (now talk).faults status
  -- no byte was heard
  pub mute : IsMute → heard talk ≡ []
  -- where a query is rejected, it is since the link had ended where its first reply was due
  pub closes : IsMute → (x : Exchange) → Tells before (now talk) x → DuelCloses status
