-- What `help`, `helplook` and `helpmom` promise.
--
-- Each serves a whole talk, in the turns of its own: each message that may come is answered by the
-- reply that is owed, before more is received. The status says how the talk ended.
use Rattle.std.specs.Prelude.{◌≡◌, List, Option}
use Rattle.sip_helper.specs.declared.status.HelpStatus.{HelpStatus}
use Rattle.sip_helper.specs.declared.status.HelpStatus.TheVariants as helps
use Rattle.sip_ports.specs.declared.port.TalkEvent.{TalkEvent}
use Rattle.sip_verifier.specs.declared.status.Status.{Status}
use Rattle.sip_verifier.specs.declared.status.Status.TheVariants as statuses

-- the status of a command whose talk ended so
abbrev pub status_of : HelpStatus → Status
status_of helps.Served = statuses.Served
status_of (helps.BadFrame offset) = statuses.BadFrame offset
status_of helps.PeerClosed = statuses.PeerClosed
status_of helps.PeerFault = statuses.PeerFault
status_of helps.OutOfMemory = statuses.OutOfMemory

-- The link told `old`, and tells `new`. `Serves` says between which of these a talk was served, and
-- how it ended.
abbrev pub HelpClause :
    (Option (List TalkEvent) → Option (List TalkEvent) → HelpStatus → Type 0)
    → Option (List TalkEvent) → Option (List TalkEvent) → Status → Type 0
HelpClause Serves old new status =
    (how : HelpStatus) × (status ≡ status_of how) × Serves old new how
