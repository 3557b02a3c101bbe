-- What `serve` promises.
--
-- It serves a talk of questions over the records that a file holds: it is told how many of them to
-- hear, says what they come to, and answers by these. Where large entries are asked for it reads
-- them again. The status says how the talk ended. Where the records could not be heard it says why,
-- and nothing of what they come to was sent.
use Rattle.std.specs.Prelude.{◌≡◌, ℕ, List, Option}
use Rattle.sip_ports.specs.declared.port.TalkEvent.{TalkEvent}
use Rattle.sip_questions.specs.declared.store_status.StoreStatus.{StoreStatus}
use Rattle.sip_questions.specs.declared.store_status.StoreStatus.TheVariants as stores
use Rattle.sip_questions.specs.Stores.{ServesStore}
use Rattle.sip_stream.specs.declared.form.Form.{Form}
use Rattle.sip_verifier.specs.declared.status.Port.TheVariants as ports
use Rattle.sip_verifier.specs.declared.status.Status.{Status}
use Rattle.sip_verifier.specs.declared.status.Status.TheVariants as statuses

-- the status of the command where the talk ended so
abbrev pub status_of_store : StoreStatus → Status
status_of_store stores.Served = statuses.Served
status_of_store (stores.BadStream at why) = statuses.BadStream at why
status_of_store (stores.BadFrame offset) = statuses.BadFrame offset
status_of_store stores.ReadFault = statuses.ReadFault ports.First
status_of_store stores.PeerClosed = statuses.PeerClosed
status_of_store stores.PeerFault = statuses.PeerFault
status_of_store stores.OutOfMemory = statuses.OutOfMemory

-- The stream has these bytes in a form, and then those that are left, and the same as it is read
-- again; the link told `old`, and tells `new`.
abbrev pub ServeClause : Form → Option (List ℕ) → Option (List ℕ) → Option (List ℕ)
    → Option (List ℕ) → Option (List TalkEvent) → Option (List TalkEvent) → Status → Type 0
ServeClause form first left again unread old new status =
    (how : StoreStatus) × (status ≡ status_of_store how)
    × ServesStore form first left again unread old new how
