-- What a call did to the links on which a panel sends. (For the proof of `panel` alone.)
use Rattle.std.specs.Prelude.{◌≡◌, ◌<◌, ◌≤◌, ℕ, List, [], ◌++◌, length, slice_index_or, take}
use Rattle.std.specs.Prelude.{Option, Some, Result, Ok, Err}
use Rattle.sip_ports.specs.declared.port.PortStop.{PortStop}
use Rattle.sip_ports.specs.declared.port.TalkEvent.{TalkEvent}
use Rattle.sip_ports.specs.Ports.{outs}
use Rattle.sip_replies.specs.Talks.{IsPrefix}
use Rattle.sip_verifier.specs.declared.status.Status.{Status}
use Rattle.sip_verifier.specs.declared.status.Status.TheVariants as statuses
use Rattle.sip_verifier.specs.declared.task.Task.{Task}
use Rattle.sip_verifier.specs.Gathering.{Breaks, EndsLegally, IsPassedOn, before_end, legal}
use Rattle.sip_verifier.specs.Seats.{Seating}
use Rattle.sip_verifier.specs.Tasks.{version_of}
use Rattle.sip_verifier.specs.Talks.{stream_sent}

-- all that happened on each of some links
abbrev pub AllTalks : Type 0
AllTalks = List (List TalkEvent)

-- this holds at each place, of what had happened on the link there and what has happened since
abbrev pub Each : (ℕ → List TalkEvent → List TalkEvent → Type 0) → AllTalks → AllTalks → Type 0
Each holds old new = (place : ℕ) → place < length old
    → holds place (slice_index_or old place []) (slice_index_or new place [])

-- these bytes were sent on a link, or a front of them where memory ran out
abbrev pub Says : List TalkEvent → List TalkEvent → List ℕ → Result (Unit {0}) PortStop → Type 0
Says old new bytes (Ok _) = new ≡ old ++ outs bytes
Says old new bytes (Err _) = (n : ℕ) × (new ≡ old ++ outs (take n bytes))

-- likewise on each link
abbrev pub SaysAll : AllTalks → AllTalks → List ℕ → Result (Unit {0}) PortStop → Type 0
SaysAll old new bytes result = Each (λ _ o n. Says o n bytes result) old new

-- likewise on each link from a place on, and on those before it nothing happened
abbrev pub SaysBehind : ℕ → AllTalks → AllTalks → List ℕ → Result (Unit {0}) PortStop → Type 0
SaysBehind from old new bytes result =
    Each (λ place o n. (place < from → n ≡ o) × (from ≤ place → Says o n bytes result)) old new

module _ (task : Task) (bytes : List ℕ) where
  -- a front was sent of what a stream sends, as far as it is legal
  pub record IsPassedInPart (old new : List TalkEvent) : Type 0 where
    pub said : List TalkEvent
    pub talk : new ≡ old ++ said
    pub order : IsPrefix said (stream_sent (version_of task) task.depth (legal task bytes))
    pub illegal : ¬ EndsLegally task bytes → IsPrefix said (before_end task bytes)

module _ (task : Task) (bytes : List ℕ) (at_blocks : List (List ℕ)) (left : Option (List ℕ))
    (seats : Seating) where
  -- What one helper heard of the stream, by what the call answered. Where memory ran out some have
  -- heard more of it than others.
  abbrev pub HearsStream : {T : Type 0} → Result T Status → List TalkEvent → List TalkEvent
      → Type 0
  HearsStream (Ok _) old new = IsPassedOn task bytes at_blocks left (Some old) (Some new) seats
  HearsStream (Err statuses.OutOfMemory) old new = IsPassedInPart task bytes old new
  HearsStream (Err status) old new = Breaks task bytes (Some old) (Some new) status
